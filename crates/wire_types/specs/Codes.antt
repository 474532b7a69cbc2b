-- Codes of one byte: the list of each, and the byte of each code. Assumes nothing.
use Rattle.std.specs.Prelude.{◌≡◌, ℕ, cond, Some, None, Option, ◌==◌, refl}
use Rattle.wire_types.specs.declared.code.Condition.{Condition}
use Rattle.wire_types.specs.declared.code.Condition.TheVariants as the_condition
use Rattle.wire_types.specs.declared.code.Issue.{Issue}
use Rattle.wire_types.specs.declared.code.Issue.TheVariants as the_issue
use Rattle.wire_types.specs.declared.code.Listing.{Listing}
use Rattle.wire_types.specs.declared.code.Listing.TheVariants as the_listing
use Rattle.wire_types.specs.declared.code.Side.{Side}
use Rattle.wire_types.specs.declared.code.Side.TheVariants as the_side
use Rattle.wire_types.specs.declared.code.Status.{Status}
use Rattle.wire_types.specs.declared.code.Status.TheVariants as the_status

-- B, S
abbrev pub side_of : ℕ → Option Side
side_of b =
    cond (b == 0x42) (Some the_side.Bid)
    (cond (b == 0x53) (Some the_side.Ask)
    None)

-- S, Q, T, H
abbrev pub status_of : ℕ → Option Status
status_of b =
    cond (b == 0x53) (Some the_status.Suspended)
    (cond (b == 0x51) (Some the_status.Queuing)
    (cond (b == 0x54) (Some the_status.Trading)
    (cond (b == 0x48) (Some the_status.Halted)
    None)))

-- space, O, S, B, E, X, D
abbrev pub condition_of : ℕ → Option Condition
condition_of b =
    cond (b == 0x20) (Some the_condition.Normal)
    (cond (b == 0x4F) (Some the_condition.Opening)
    (cond (b == 0x53) (Some the_condition.Spread)
    (cond (b == 0x42) (Some the_condition.Block)
    (cond (b == 0x45) (Some the_condition.Ecrp)
    (cond (b == 0x58) (Some the_condition.Break)
    (cond (b == 0x44) (Some the_condition.Derived)
    None))))))

-- i, I, S, R
abbrev pub issue_of : ℕ → Option Issue
issue_of b =
    cond (b == 0x69) (Some the_issue.Periodic)
    (cond (b == 0x49) (Some the_issue.Indicative)
    (cond (b == 0x53) (Some the_issue.Initial)
    (cond (b == 0x52) (Some the_issue.Reissued)
    None)))

-- A, I, T
abbrev pub listing_of : ℕ → Option Listing
listing_of b =
    cond (b == 0x41) (Some the_listing.Active)
    (cond (b == 0x49) (Some the_listing.Inactive)
    (cond (b == 0x54) (Some the_listing.Test)
    None))

-- ---- the byte of each code, from which it is read back

abbrev pub side_byte : Side → ℕ
side_byte the_side.Bid = 0x42
side_byte the_side.Ask = 0x53

pub side_read_back : (x : Side) → side_of (side_byte x) ≡ Some x
side_read_back the_side.Bid = refl
side_read_back the_side.Ask = refl

abbrev pub status_byte : Status → ℕ
status_byte the_status.Suspended = 0x53
status_byte the_status.Queuing = 0x51
status_byte the_status.Trading = 0x54
status_byte the_status.Halted = 0x48

pub status_read_back : (x : Status) → status_of (status_byte x) ≡ Some x
status_read_back the_status.Suspended = refl
status_read_back the_status.Queuing = refl
status_read_back the_status.Trading = refl
status_read_back the_status.Halted = refl

abbrev pub condition_byte : Condition → ℕ
condition_byte the_condition.Normal = 0x20
condition_byte the_condition.Opening = 0x4F
condition_byte the_condition.Spread = 0x53
condition_byte the_condition.Block = 0x42
condition_byte the_condition.Ecrp = 0x45
condition_byte the_condition.Break = 0x58
condition_byte the_condition.Derived = 0x44

pub condition_read_back : (x : Condition) → condition_of (condition_byte x) ≡ Some x
condition_read_back the_condition.Normal = refl
condition_read_back the_condition.Opening = refl
condition_read_back the_condition.Spread = refl
condition_read_back the_condition.Block = refl
condition_read_back the_condition.Ecrp = refl
condition_read_back the_condition.Break = refl
condition_read_back the_condition.Derived = refl

abbrev pub issue_byte : Issue → ℕ
issue_byte the_issue.Periodic = 0x69
issue_byte the_issue.Indicative = 0x49
issue_byte the_issue.Initial = 0x53
issue_byte the_issue.Reissued = 0x52

pub issue_read_back : (x : Issue) → issue_of (issue_byte x) ≡ Some x
issue_read_back the_issue.Periodic = refl
issue_read_back the_issue.Indicative = refl
issue_read_back the_issue.Initial = refl
issue_read_back the_issue.Reissued = refl

abbrev pub listing_byte : Listing → ℕ
listing_byte the_listing.Active = 0x41
listing_byte the_listing.Inactive = 0x49
listing_byte the_listing.Test = 0x54

pub listing_read_back : (x : Listing) → listing_of (listing_byte x) ≡ Some x
listing_read_back the_listing.Active = refl
listing_read_back the_listing.Inactive = refl
listing_read_back the_listing.Test = refl
