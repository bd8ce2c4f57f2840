-- `hungarian_path::extend`: `pop_nearest`, the words read and `scan`, put together by Growths.
use Rattle.std.proofs.Common.{refl, arith}
use Rattle.hungarian_path.proofs.Growths.{first_row, pop_asks, code_ranges, code_asks, code_done}
use Rattle.hungarian_path.proofs.extend.Goals as goal

pub pop_nearest-opened-requires : goal.pop_nearest-opened-requires
pop_nearest-opened-requires c = pop_asks _ _ _ _ _ _ _ _ c.requires

pub bounds-work-q : goal.bounds-work-q
bounds-work-q c = omega (arith, first_row _ _ _ _ _ _ _ _ c.requires, c.pop_nearest-opened.auto.work)

pub bounds-work-n-2 : goal.bounds-work-n-2
bounds-work-n-2 c =
    let pops = c.pop_nearest-opened in
    omega (
      arith,
      code_ranges _ _ _ _ _ _ _ _ c.requires _ _ _ _ (pops.ensures _ c.requires.growing.keyed) pops.auto.work
          (pops.auto.pos, pops.auto.keys) _ _ _ refl refl refl,
      first_row _ _ _ _ _ _ _ _ c.requires,
      pops.auto.work,
    )

pub offset-v-requires : goal.offset-v-requires
offset-v-requires c =
    let pops = c.pop_nearest-opened in
    let inside = code_ranges _ _ _ _ _ _ _ _ c.requires _ _ _ _ (pops.ensures _ c.requires.growing.keyed)
    pops.auto.work (pops.auto.pos, pops.auto.keys) _ _ _ refl refl refl in
    (omega arith, (omega arith, inside.2))

pub column_length-requires-clause-fact_1 : goal.column_length-requires-clause-fact_1
column_length-requires-clause-fact_1 c =
    let pops = c.pop_nearest-opened in
    omega (
      arith,
      code_ranges _ _ _ _ _ _ _ _ c.requires _ _ _ _ (pops.ensures _ c.requires.growing.keyed) pops.auto.work
          (pops.auto.pos, pops.auto.keys) _ _ _ refl refl refl,
    )

pub column_length-requires-clause-fact_2 : goal.column_length-requires-clause-fact_2
column_length-requires-clause-fact_2 c =
    let pops = c.pop_nearest-opened in
    (code_ranges _ _ _ _ _ _ _ _ c.requires _ _ _ _ (pops.ensures _ c.requires.growing.keyed) pops.auto.work
    (pops.auto.pos, pops.auto.keys) _ _ _ refl refl refl).5

pub scan-scanned-requires : goal.scan-scanned-requires
scan-scanned-requires c =
    let pops = c.pop_nearest-opened in
    code_asks _ _ _ _ _ _ _ _ c.requires _ _ _ _ (pops.ensures _ c.requires.growing.keyed) pops.auto.work
    (pops.auto.pos, pops.auto.keys) _ _ _ refl refl refl _ c.offset-v.ensures

pub returns : goal.returns
returns c =
    let pops = c.pop_nearest-opened in
    code_done _ _ _ _ _ _ _ _ c.requires _ _ _ _ (pops.ensures _ c.requires.growing.keyed) pops.auto.work
    (pops.auto.pos, pops.auto.keys) _ _ _ refl refl refl _ c.offset-v.ensures _ c.column_length.ensures _
    c.column_scanned-counted.ensures _ _ _ _ _ c.scan-scanned.ensures
