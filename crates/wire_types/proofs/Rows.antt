-- Bytes cut into rows of ten are the same legs.
use Rattle.std.proofs.Common.{◌≡◌, ℕ, zero, suc, List, map, take, drop, refl, arith}
use Rattle.std.proofs.lemmas.List.{drop-take, take-take}
use Rattle.std.specs.Simd.{first_chunks}
use Rattle.wire_types.proofs.Spans.{le_take}
use Rattle.wire_types.specs.Legs.{leg_of, first_legs}

leg_front : (bytes : List ℕ) → leg_of (take 10 bytes) ≡ leg_of bytes
leg_front bytes = rw (le_take 4 10 bytes 0 (omega arith), drop-take 4 6 bytes, take-take 6 6 (drop 4 bytes) (omega arith)) refl

pub row_legs : (k : ℕ) (bytes : List ℕ) → map leg_of (first_chunks 10 k bytes) ≡ first_legs k bytes
unfolding first_legs
row_legs zero bytes = refl
row_legs (suc k) bytes = rw (leg_front bytes, row_legs k (drop 10 bytes)) refl
