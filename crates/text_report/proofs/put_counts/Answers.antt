-- `put_counts` meets its contract: the word, each of the seven numbers after those before it, the line feed.
use Rattle.std.proofs.Common.{◌≡◌, ◌+◌, ◌-◌, ◌<◌, refl, ap, suc, ℕ, List, length, get_or, take, drop, get_or-take, get_or-drop, arith}
use Rattle.text_report.specs.Decimal.{decimal}
use Rattle.text_report.specs.Report.{spaced, numbers, counts_line}
use Rattle.text_report.proofs.Writes.{and_then, byte_last, restated}
use Rattle.text_report.proofs.Lines.{counts_length, number_more, number_length, numbers_rise}
use Rattle.text_report.proofs.put_counts.Goals as goal

-- the numbers behind the first
behind_first : (counts : List ℕ) (k : ℕ) → suc k < length counts → get_or (take (length counts - 1) (drop 1 counts)) k 0 ≡ get_or counts (k + 1) 0
behind_first counts k h =
    let within : k < length counts - 1 = omega arith in
    let place : 1 + k ≡ k + 1 = omega arith in
    rw (get_or-take, get_or-drop, place)

pub put_bytes-next-requires : goal.put_bytes-next-requires
put_bytes-next-requires c = omega (arith, counts_length c.args.counts.now)

pub loop-count-init : goal.loop-count-init
unfolding numbers
loop-count-init c = record { bytes = refl; place = omega arith }

pub put_spaced-next-requires : goal.put_spaced-next-requires
put_spaced-next-requires c =
    let counts = c.args.counts.now in
    let k = c.loop-count.count-index in
    omega (
      arith,
      c.loop-count.auto.out,
      ap (λ (n : ℕ). length (decimal n)) (behind_first counts k (omega arith)),
      counts_length counts,
      number_length counts k,
      numbers_rise counts (suc k) 7 (omega arith),
    )

pub loop-count-preserved : goal.loop-count-preserved
loop-count-preserved c =
    let counts = c.args.counts.now in
    let k = c.loop-count.count-index in
    restated (number_more counts k) refl
    (and_then c.loop-count.invariant
    (restated (ap (λ (n : ℕ). spaced (decimal n)) (behind_first counts k (omega arith))) refl c.put_spaced-next.ensures))

pub bounds-out-next : goal.bounds-out-next
bounds-out-next c =
    let counts = c.args.counts.now in
    omega (arith, c.loop-count.auto.out, counts_length counts, numbers_rise counts c.loop-count.count-index 7 (omega arith))

pub overflow_add-result : goal.overflow_add-result
overflow_add-result c =
    let counts = c.args.counts.now in
    omega (arith, c.loop-count.auto.out, counts_length counts, numbers_rise counts c.loop-count.count-index 7 (omega arith))

pub returns : goal.returns
unfolding counts_line
returns c =
    let all : c.loop-count.count-index ≡ 7 = omega arith in
    byte_last 10 (and_then c.put_bytes-next.ensures (rw all at c.loop-count.invariant))
