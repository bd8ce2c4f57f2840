-- `put_sheet` meets its contract: each turn writes one more patch.
use Rattle.std.proofs.Common.{◌≡◌, ℕ, ◌++◌, refl, ap, arith}
use Rattle.matching.specs.Match.{match_of}
use Rattle.byte_numbers.specs.Bytes.{bytes_of}
use Rattle.byte_numbers.proofs.Words.{bytes_length}
use Rattle.text_report.proofs.Writes.{and_then, restated}
use Rattle.sheet.specs.Format.{records_to, sheet_bytes}
use Rattle.sheet.proofs.Lengths.{records_length}
use Rattle.sheet_writer.proofs.Writing.{nothing, records_none, records_more, lengths_are}
use Rattle.sheet_writer.proofs.put_sheet.Goals as goal

pub put_two-at-requires : goal.put_two-at-requires
put_two-at-requires c = let a = c.args in
    omega (arith, (lengths_are a.n (match_of a.perm.now a.u.now a.v.now a.cmax.now) a.out.now c.requires.out_value).room)

pub loop-k-init : goal.loop-k-init
loop-k-init c = restated (records_none _) refl (nothing _ _)

pub bounds-perm-i : goal.bounds-perm-i
bounds-perm-i c = let a = c.args in
    omega (arith, (lengths_are a.n (match_of a.perm.now a.u.now a.v.now a.cmax.now) a.out.now c.requires.out_value).perm)

pub bounds-u-i : goal.bounds-u-i
bounds-u-i c = let a = c.args in
    omega (arith, (lengths_are a.n (match_of a.perm.now a.u.now a.v.now a.cmax.now) a.out.now c.requires.out_value).u)

pub bounds-v-i : goal.bounds-v-i
bounds-v-i c = let a = c.args in
    omega (arith, (lengths_are a.n (match_of a.perm.now a.u.now a.v.now a.cmax.now) a.out.now c.requires.out_value).v)

pub bounds-cmax-i : goal.bounds-cmax-i
bounds-cmax-i c = let a = c.args in
    omega (arith, (lengths_are a.n (match_of a.perm.now a.u.now a.v.now a.cmax.now) a.out.now c.requires.out_value).cmax)

pub put_patch-at-requires : goal.put_patch-at-requires
put_patch-at-requires c =
    let a = c.args in
    let m = match_of a.perm.now a.u.now a.v.now a.cmax.now in
    omega (
      arith,
      (lengths_are a.n m a.out.now c.requires.out_value).room,
      c.loop-k.auto.out,
      c.loop-k.invariant.place,
      c.put_two-at.auto.out,
      c.put_two-at.ensures.place,
      bytes_length 2 a.n,
      records_length c.loop-k.k m,
    )

pub loop-k-preserved : goal.loop-k-preserved
loop-k-preserved c = let a = c.args in
    restated (records_more c.loop-k.k (match_of a.perm.now a.u.now a.v.now a.cmax.now)) refl
    (and_then c.loop-k.invariant c.put_patch-at.ensures)

pub returns : goal.returns
unfolding sheet_bytes
returns c =
    let a = c.args in
    let e : c.loop-k.k ≡ a.n = omega arith in
    restated (ap (λ (k : ℕ). bytes_of 2 a.n ++ records_to k (match_of a.perm.now a.u.now a.v.now a.cmax.now)) e) refl
    (and_then c.put_two-at.ensures c.loop-k.invariant)
