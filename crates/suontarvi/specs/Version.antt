-- The version of the library at run time, as one number: SPECIFICATION 12.2.
use Rattle.std.specs.Prelude.{ℕ, ◌+◌, ◌*◌}

abbrev pub major : ℕ
major = 0

abbrev pub minor : ℕ
minor = 3

abbrev pub patch : ℕ
patch = 0

abbrev pub version : ℕ
version = major * 65536 + minor * 256 + patch
