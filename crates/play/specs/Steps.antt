-- One step of a block that is played. Assumes nothing.
use Rattle.std.specs.Prelude.{ℕ, ◌+◌, Bool, cond, Some, unwrap_or}
use Rattle.play.specs.declared.block.Declined.{Declined}
use Rattle.play.specs.declared.block.Played.{Played}

-- what has been noted, or that none was and the first would be at a place
abbrev pub so_far : ℕ → Played → Declined
so_far place p = unwrap_or p.declined (record { count = 0; first = place })

-- what has been noted once the message at a place was full, or not
abbrev pub noted : Bool → ℕ → Played → Played
noted full place p = cond full (record { declined = Some (record { count = (so_far place p).count + 1; first = (so_far place p).first }) }) p
