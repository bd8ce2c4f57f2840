-- SPECIFICATION 11.1: The result of the reads of standard input.
use Rattle.std.specs.Prelude.{cond, Option, Some, None, ℕ, zero, suc, ◌+◌, ◌≤◌, ltb}
use Rattle.text_answer.specs.Answer.{buffer_length}
use Rattle.text_program.specs.declared.Input.{Input}
use Rattle.text_program.specs.declared.Input.TheVariants.{More, All}

-- what a read with room for n bytes answers: none if it fails, or how many bytes it brought, at most n
abbrev pub Moved : ℕ → Option ℕ → Type 0
Moved n (Some k) = k ≤ n
Moved n None = Unit

-- a full buffer needs no further read
abbrev pub taken : ℕ → Input
taken count = cond (ltb count buffer_length) (More count) (All count)

-- after `at` bytes a read answers none if it fails, 0 at the end of the input, or the number of bytes read
unfoldable pub input_after : ℕ → Option ℕ → Option Input
input_after at None = None
input_after at (Some zero) = Some (All at)
input_after at (Some (suc k)) = Some (taken (at + suc k))
