-- The words for codes and for refusals. Assumes nothing.
use Rattle.std.specs.Prelude.{ℕ, List, ◌++◌, codes, decimal}
use Rattle.wire_types.specs.Refusals.{Refusal}
use Rattle.wire_types.specs.declared.code.Condition.{Condition}
use Rattle.wire_types.specs.declared.code.Condition.TheVariants as the_condition
use Rattle.wire_types.specs.declared.code.Issue.{Issue}
use Rattle.wire_types.specs.declared.code.Issue.TheVariants as the_issue
use Rattle.wire_types.specs.declared.code.Listing.{Listing}
use Rattle.wire_types.specs.declared.code.Listing.TheVariants as the_listing
use Rattle.wire_types.specs.declared.code.Side.{Side}
use Rattle.wire_types.specs.declared.code.Side.TheVariants as the_side
use Rattle.wire_types.specs.declared.code.Status.{Status}
use Rattle.wire_types.specs.declared.code.Status.TheVariants as the_status
use Rattle.wire_types.specs.declared.fault.Layer.{Layer}
use Rattle.wire_types.specs.declared.fault.Layer.TheVariants.{Header, Message, Field}
use Rattle.wire_types.specs.declared.header.Carrier.{Carrier}
use Rattle.wire_types.specs.declared.header.Carrier.TheVariants as the_carrier

abbrev pub carrier_word : Carrier → List ℕ
carrier_word the_carrier.Datagram = codes "datagram"
carrier_word the_carrier.Spin = codes "spin block"

abbrev pub side_word : Side → List ℕ
side_word the_side.Bid = codes "bid"
side_word the_side.Ask = codes "ask"

abbrev pub status_word : Status → List ℕ
status_word the_status.Suspended = codes "suspended"
status_word the_status.Queuing = codes "queuing"
status_word the_status.Trading = codes "trading"
status_word the_status.Halted = codes "halted"

abbrev pub condition_word : Condition → List ℕ
condition_word the_condition.Normal = codes "normal"
condition_word the_condition.Opening = codes "opening"
condition_word the_condition.Spread = codes "spread"
condition_word the_condition.Block = codes "block"
condition_word the_condition.Ecrp = codes "ECRP"
condition_word the_condition.Break = codes "break"
condition_word the_condition.Derived = codes "derived"

abbrev pub issue_word : Issue → List ℕ
issue_word the_issue.Periodic = codes "periodic"
issue_word the_issue.Indicative = codes "indicative"
issue_word the_issue.Initial = codes "initial"
issue_word the_issue.Reissued = codes "re-issued"

abbrev pub listing_word : Listing → List ℕ
listing_word the_listing.Active = codes "active"
listing_word the_listing.Inactive = codes "inactive"
listing_word the_listing.Test = codes "test"

-- a refusal's number, its layer and its byte
abbrev pub told_in : Layer → ℕ → ℕ → List ℕ
told_in Header n b = codes "refused " ++ (decimal n ++ (codes " header byte " ++ decimal b))
told_in (Message p) n b = codes "refused " ++ (decimal n ++ (codes " message place " ++ (decimal p ++ (codes " byte " ++ decimal b))))
told_in (Field p) n b = codes "refused " ++ (decimal n ++ (codes " field place " ++ (decimal p ++ (codes " byte " ++ decimal b))))

abbrev pub told : Refusal → List ℕ
told r = told_in r.layer r.number r.byte
