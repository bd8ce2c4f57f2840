-- `store_records` meets its contract: each turn stores a record.
use Rattle.std.proofs.Common.{length, sym, ◌∙◌, arith}
use Rattle.matching.specs.Match.{match_of}
use Rattle.sheet.proofs.Lengths.{size_least}
use Rattle.sheet.proofs.Records.{first_says}
use Rattle.sheet_reader.proofs.Tested.{first-at, size_within}
use Rattle.sheet_reader.proofs.Storing.{all_stored, cut_stored, next_stored, inside_here}
use Rattle.sheet_reader.proofs.store_records.Goals as goal

pub returns-in_default : goal.returns-in_default
returns-in_default c =
    let a = c.args in
    let l = c.loop-at in
    sym (l.invariant.same ∙ cut_stored a.sheet.now l.at (match_of l.perm l.u l.v l.cmax) c.loop-at-test.true
    (first-at a.sheet.now l.at c.first_record.ensures c.in_default.is))

pub bounds-perm-patch : goal.bounds-perm-patch
bounds-perm-patch c =
    let a = c.args in
    let here = first-at a.sheet.now c.loop-at.at c.first_record.ensures c.in-Some.is in
    omega (
      arith,
      (inside_here (length a.perm.now) a.sheet.now c.loop-at.at c.in-Some.r c.loop-at-test.true here c.loop-at.invariant.inside).0,
      c.loop-at.auto.perm,
    )

pub bounds-u-patch : goal.bounds-u-patch
bounds-u-patch c =
    let a = c.args in
    let here = first-at a.sheet.now c.loop-at.at c.first_record.ensures c.in-Some.is in
    omega (
      arith,
      (inside_here (length a.perm.now) a.sheet.now c.loop-at.at c.in-Some.r c.loop-at-test.true here c.loop-at.invariant.inside).0,
      c.loop-at.auto.u,
      c.requires.u_len,
    )

pub bounds-v-patch : goal.bounds-v-patch
bounds-v-patch c =
    let a = c.args in
    let here = first-at a.sheet.now c.loop-at.at c.first_record.ensures c.in-Some.is in
    omega (
      arith,
      (inside_here (length a.perm.now) a.sheet.now c.loop-at.at c.in-Some.r c.loop-at-test.true here c.loop-at.invariant.inside).0,
      c.loop-at.auto.v,
      c.requires.v_len,
    )

pub bounds-cmax-patch : goal.bounds-cmax-patch
bounds-cmax-patch c =
    let a = c.args in
    let here = first-at a.sheet.now c.loop-at.at c.first_record.ensures c.in-Some.is in
    omega (
      arith,
      (inside_here (length a.perm.now) a.sheet.now c.loop-at.at c.in-Some.r c.loop-at-test.true here c.loop-at.invariant.inside).0,
      c.loop-at.auto.cmax,
      c.requires.cmax_len,
    )

pub overflow_add-at : goal.overflow_add-at
overflow_add-at c =
    let a = c.args in
    let here = first-at a.sheet.now c.loop-at.at c.first_record.ensures c.in-Some.is in
    omega (arith, size_within a.sheet.now c.loop-at.at c.in-Some.r c.loop-at-test.true here, first_says _ c.in-Some.r here)

pub loop-at-smaller : goal.loop-at-smaller
loop-at-smaller c =
    let a = c.args in
    let here = first-at a.sheet.now c.loop-at.at c.first_record.ensures c.in-Some.is in
    omega (
      arith,
      size_within a.sheet.now c.loop-at.at c.in-Some.r c.loop-at-test.true here,
      first_says _ c.in-Some.r here,
      size_least c.in-Some.r.bits,
    )

pub loop-at-preserved : goal.loop-at-preserved
loop-at-preserved c =
    let a = c.args in
    let l = c.loop-at in
    let here = first-at a.sheet.now l.at c.first_record.ensures c.in-Some.is in
    let i = inside_here (length a.perm.now) a.sheet.now l.at c.in-Some.r c.loop-at-test.true here l.invariant.inside in
    let s = next_stored a.sheet.now l.at (match_of l.perm l.u l.v l.cmax) c.in-Some.r c.loop-at-test.true here in
    record {
      inside = rw (first_says _ c.in-Some.r here) i.1;
      same = rw (first_says _ c.in-Some.r here) (l.invariant.same ∙ s);
    }

pub returns : goal.returns
returns c = let l = c.loop-at in
    sym (l.invariant.same ∙ all_stored c.args.sheet.now l.at (match_of l.perm l.u l.v l.cmax) c.loop-at-test.false)
