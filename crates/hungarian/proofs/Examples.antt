-- What the Rust answers on a few small graphs with equal costs, fractions, searches with and without a path: the definition computes the same, bit for
-- bit, and the two counts that the Rust lacks.
use mathlib.Core.Path.{◌≡◌, refl}
use mathlib.Core.List.{List, [], ◌∷◌, map}
use Prim.Native.Nat.{ℕ}
use lib.Ieee.{binary64, of_bits, add, sub, lt, le, eq, ne}
use Rattle.limits.specs.Limits.{none}
use Rattle.hungarian.specs.Graph.{CostGraph, graph_of}
use Rattle.hungarian.specs.Counts.{counts}
use Rattle.hungarian.specs.Match.{Matching, hungarian_match}

abbrev graph : ℕ → List ℕ → List ℕ → List ℕ → CostGraph
graph n col_ptr rows costs = graph_of n col_ptr rows (map (of_bits binary64) costs)

abbrev answer : List ℕ → List ℕ → List ℕ → ℕ → ℕ → ℕ → ℕ → ℕ → ℕ → ℕ → ℕ → Matching
answer perm u v matched slots searches touched inner scans pops peak =
    record {
      perm = perm;
      u = map (of_bits binary64) u;
      v = map (of_bits binary64) v;
      matched = matched;
      stats =
          counts slots searches touched inner scans pops peak;
    }

example_1 : hungarian_match (graph 5 (0 ∷ 3 ∷ 7 ∷ 10 ∷ 14 ∷ 18 ∷ []) (0 ∷ 3 ∷ 4 ∷ 0 ∷ 1 ∷ 2 ∷ 3 ∷ 2 ∷ 3 ∷ 4 ∷ 0 ∷ 1 ∷ 2 ∷ 3 ∷ 0 ∷ 2 ∷ 3 ∷ 4 ∷ [])
    (0x422ffffffffe0000 ∷ 0x0 ∷ 0x3ff0000000000000 ∷ 0x4008000000000000 ∷ 0x3ff0000000000000 ∷ 0x422ffffffffe0000 ∷ 0x422ffffffffe0000
    ∷ 0x3ff0000000000000 ∷ 0x0 ∷ 0x0 ∷ 0x3fe0000000000000 ∷ 0x3fe0000000000000 ∷ 0x4008000000000000
    ∷ 0x3fe0000000000000 ∷ 0x0 ∷ 0x3fe0000000000000 ∷ 0x8000000000000000 ∷ 0x8000000000000000 ∷ [])) ≡ answer (3 ∷ 1 ∷ 4 ∷ 0 ∷ 2 ∷ [])
    (0x0 ∷ 0x0 ∷ 0x3fe0000000000000 ∷ 0x8000000000000000 ∷ 0x8000000000000000 ∷ [])
    (0x0 ∷ 0x3ff0000000000000 ∷ 0x0 ∷ 0x3fe0000000000000 ∷ 0x0 ∷ []) 5 8 1 3 4 12 2 2
unfolding hungarian_match of_bits add sub lt le eq ne
example_1 = refl

example_2 : hungarian_match (graph 5 (0 ∷ 4 ∷ 7 ∷ 10 ∷ 14 ∷ 14 ∷ []) (0 ∷ 1 ∷ 3 ∷ 4 ∷ 1 ∷ 2 ∷ 3 ∷ 1 ∷ 3 ∷ 4 ∷ 0 ∷ 1 ∷ 3 ∷ 4 ∷ [])
    (0x3ff0000000000000 ∷ 0x3ff0000000000000 ∷ 0x4000000000000000 ∷ 0x3ff0000000000000 ∷ 0x4000000000000000 ∷ 0x4000000000000000 ∷ 0x0 ∷ 0x0
    ∷ 0x3ff0000000000000 ∷ 0x4000000000000000 ∷ 0x4008000000000000 ∷ 0x0 ∷ 0x3ff0000000000000
    ∷ 0x4000000000000000 ∷ [])) ≡ answer (0 ∷ 2 ∷ 3 ∷ 1 ∷ none ∷ []) (0x3ff0000000000000 ∷ 0xbff0000000000000 ∷ 0x4000000000000000 ∷ 0x0 ∷ 0x0 ∷ [])
    (0x0 ∷ 0x0 ∷ 0x3ff0000000000000 ∷ 0x3ff0000000000000 ∷ 0x0 ∷ []) 4 6 2 1 4 7 1 1
unfolding hungarian_match of_bits add sub lt le eq ne
example_2 = refl

example_3 : hungarian_match
    (graph 3 (0 ∷ 3 ∷ 6 ∷ 6 ∷ []) (0 ∷ 1 ∷ 2 ∷ 0 ∷ 1 ∷ 2 ∷ [])
    (0x8000000000000000 ∷ 0x8000000000000000 ∷ 0x3fd0000000000000 ∷ 0x0 ∷ 0x3fd0000000000000 ∷ 0x8000000000000000 ∷ [])) ≡ answer
    (1 ∷ 0 ∷ none ∷ []) (0x0 ∷ 0x8000000000000000 ∷ 0x0 ∷ []) (0x0 ∷ 0x0 ∷ 0x0 ∷ []) 2 3 1 0 0 0 0 0
unfolding hungarian_match of_bits add sub lt le eq ne
example_3 = refl

example_4 : hungarian_match (graph 4 (0 ∷ 2 ∷ 6 ∷ 10 ∷ 14 ∷ []) (0 ∷ 1 ∷ 0 ∷ 1 ∷ 2 ∷ 3 ∷ 0 ∷ 1 ∷ 2 ∷ 3 ∷ 0 ∷ 1 ∷ 2 ∷ 3 ∷ [])
    (0x4014843ce644e4ab ∷ 0x3fc167bce2b81448 ∷ 0x3fdf2ff1c4ee1948 ∷ 0x3fec187e650d7452 ∷ 0x400841f2aead1cc0 ∷ 0x401b78db213a398e ∷ 0x401189c42b906f3c
    ∷ 0x3fffcbeebf780b47 ∷ 0x40231e9b51c9df20 ∷ 0x4020b7c166dc359f ∷ 0x4021be1bb9f28d16
    ∷ 0x40200e936da3cb86 ∷ 0x40223797da3b97d6 ∷ 0x40190a7e4b7c57b0 ∷ [])) ≡ answer (1 ∷ 2 ∷ 0 ∷ 3 ∷ [])
    (0x3fdf2ff1c4ee1940 ∷ 0xbffe8f257d8e2b59 ∷ 0x400841f2aead1cc0 ∷ 0x4011d8bdbe76dd96 ∷ [])
    (0x40005e0e8cf296f1 ∷ 0x0 ∷ 0x400f2d8a1e831b50 ∷ 0x3ffcc7023415e868 ∷ []) 4 7 1 3 2 14 3 3
unfolding hungarian_match of_bits add sub lt le eq ne
example_4 = refl

example_5 : hungarian_match (graph 3 (0 ∷ 0 ∷ 2 ∷ 3 ∷ []) (1 ∷ 2 ∷ 1 ∷ []) (0x0 ∷ 0x3ff0000000000000 ∷ 0x0 ∷ [])) ≡ answer (none ∷ 2 ∷ 1 ∷ [])
    (0x0 ∷ 0x0 ∷ 0x3ff0000000000000 ∷ []) (0x0 ∷ 0x0 ∷ 0x0 ∷ []) 2 3 1 0 0 0 0 0
unfolding hungarian_match of_bits add sub lt le eq ne
example_5 = refl

example_6 : hungarian_match
    (graph 3 (0 ∷ 3 ∷ 6 ∷ 6 ∷ []) (0 ∷ 1 ∷ 2 ∷ 0 ∷ 1 ∷ 2 ∷ [])
    (0x3ff0000000000000 ∷ 0x4008000000000000 ∷ 0x3ff0000000000000 ∷ 0x3ff0000000000000 ∷ 0x4000000000000000 ∷ 0x3ff0000000000000 ∷ [])) ≡ answer
    (2 ∷ 0 ∷ none ∷ []) (0x3ff0000000000000 ∷ 0x0 ∷ 0x3ff0000000000000 ∷ []) (0x0 ∷ 0x0 ∷ 0x0 ∷ []) 2 3 1 0 0 0 0 0
unfolding hungarian_match of_bits add sub lt le eq ne
example_6 = refl

example_7 : hungarian_match (graph 5 (0 ∷ 3 ∷ 7 ∷ 10 ∷ 11 ∷ 11 ∷ []) (0 ∷ 1 ∷ 3 ∷ 0 ∷ 1 ∷ 2 ∷ 4 ∷ 0 ∷ 1 ∷ 4 ∷ 1 ∷ [])
    (0x0 ∷ 0x4000000000000000 ∷ 0x0 ∷ 0x4000000000000000 ∷ 0x3ff0000000000000 ∷ 0x3ff0000000000000 ∷ 0x4008000000000000 ∷ 0x4000000000000000
    ∷ 0x4008000000000000 ∷ 0x3ff0000000000000 ∷ 0x0 ∷ [])) ≡ answer (0 ∷ 2 ∷ 4 ∷ 1 ∷ none ∷ [])
    (0x0 ∷ 0x0 ∷ 0x3ff0000000000000 ∷ 0x0 ∷ 0x3ff0000000000000 ∷ []) (0x0 ∷ 0x0 ∷ 0x0 ∷ 0x0 ∷ 0x0 ∷ []) 4 5 1 0 0 0 0 0
unfolding hungarian_match of_bits add sub lt le eq ne
example_7 = refl

example_8 : hungarian_match
    (graph 4 (0 ∷ 0 ∷ 3 ∷ 4 ∷ 6 ∷ []) (1 ∷ 2 ∷ 3 ∷ 1 ∷ 0 ∷ 1 ∷ [])
    (0x422ffffffffe0000 ∷ 0x3ff0000000000000 ∷ 0x3fe0000000000000 ∷ 0x8000000000000000 ∷ 0x4008000000000000 ∷ 0x3fe0000000000000 ∷ []))
    ≡ answer (none ∷ 2 ∷ 1 ∷ 0 ∷ []) (0x4008000000000000 ∷ 0x8000000000000000 ∷ 0x3ff0000000000000 ∷ 0x0 ∷ []) (0x0 ∷ 0x0 ∷ 0x0 ∷ 0x0 ∷ []) 3 4 1 0 0 0 0 0
unfolding hungarian_match of_bits add sub lt le eq ne
example_8 = refl
