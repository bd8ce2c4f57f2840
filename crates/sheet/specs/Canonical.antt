-- SPECIFICATION 5.16: The canonical file: patches rise, and every record has the map that the writer makes.
use Rattle.std.specs.Prelude.{◌≡◌, ◌&&◌, List, [], ◌∷◌, ℕ, suc, eqb, leb, ltb, drop, Option, Some, None}
use Rattle.refusal.specs.Refusal.{accepted, sheet_cut, patch_order, needless_field}
use Rattle.sparse.specs.Fault.{unless, or_else}
use Rattle.sheet.specs.declared.Record.{Record}
use Rattle.sheet.specs.Format.{bits_of}
use Rattle.sheet.specs.Reading.{records_of, index_fault, order_of, head_fault}

-- 45: an empty map, or a field equal to what its absence means: the map is not the writer's map of the fields
unfoldable pub needless_fault : Record → ℕ
needless_fault r = unless (ltb 0 r.bits && eqb r.bits (bits_of r.row r.u r.v r.cmax)) needless_field

-- 44: a patch that does not rise; `next` is one more than the patch before
unfoldable pub rising_fault : ℕ → Record → ℕ
rising_fault next r = unless (leb next r.patch) patch_order

-- the first fault of the records after the patches below `next`
unfoldable pub canonical_fault : ℕ → ℕ → List (Option Record) → ℕ
canonical_fault n next [] = accepted
canonical_fault n next (None ∷ rest) = sheet_cut
canonical_fault n next (Some r ∷ rest) =
    or_else (index_fault n r)
    (or_else (needless_fault r) (or_else (rising_fault next r) (canonical_fault n (suc r.patch) rest)))

unfoldable pub canonical_body : List ℕ → ℕ
canonical_body sheet = canonical_fault (order_of sheet) 0 (records_of (drop 2 sheet))

-- a canonical file is taken
pub record Canonical (sheet : List ℕ) : Type 0 where
  pub head : head_fault sheet ≡ accepted
  pub body : canonical_body sheet ≡ accepted
