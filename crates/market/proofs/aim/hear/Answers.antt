use Rattle.std.proofs.Common.{◌≡◌, Ok, Err, Result, refl, ap, ◌∙◌}
use Rattle.std.specs.Result.{result_unwrap_or}
use Rattle.wire_types.specs.Records.{meaning}
use Rattle.wire_types.specs.Refusals.{reads}
use Rattle.wire_types.specs.declared.fault.Flaw.{Flaw}
use Rattle.wire_types.specs.declared.message.Message.{Message}
use Rattle.market.specs.Aims.{does}
use Rattle.market.specs.Effects.{nothing}
use Rattle.market.specs.Market.{effect_of, heard}
use Rattle.market.proofs.aim.hear.Goals as goal

-- a message that does nothing, in place of a flaw
or_nothing : (r : Result Message Flaw) (d : Message) → does d ≡ nothing → does (result_unwrap_or r d) ≡ effect_of (reads meaning r)
or_nothing (Ok x) d e = refl
or_nothing (Err x) d e = e

pub returns : goal.returns
unfolding heard
returns c = ap does c.unwrap_or.ensures ∙ or_nothing c.decode.result _ refl ∙ ap effect_of c.decode.ensures.value
