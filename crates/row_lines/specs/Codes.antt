-- The letters of codes, as the feed has them. Assumes nothing.
use Rattle.std.specs.Prelude.{◌≡◌, ℕ, List, codes, encode_utf8}
use Rattle.std.proofs.Common.{lit<}
use Rattle.std.proofs.lemmas.Str.{encode_ascii}
use Rattle.wire_types.specs.Codes.{condition_byte, issue_byte, listing_byte, status_byte}
use Rattle.wire_types.specs.declared.code.Condition.{Condition}
use Rattle.wire_types.specs.declared.code.Issue.{Issue}
use Rattle.wire_types.specs.declared.code.Issue.TheVariants as the_issue
use Rattle.wire_types.specs.declared.code.Listing.{Listing}
use Rattle.wire_types.specs.declared.code.Listing.TheVariants as the_listing
use Rattle.wire_types.specs.declared.code.Status.{Status}
use Rattle.wire_types.specs.declared.code.Status.TheVariants as the_status

-- the character of a byte
abbrev pub letter : ℕ → List ℕ
letter b = encode_utf8 b

abbrev pub status_letter : Status → List ℕ
status_letter x = letter (status_byte x)

pub status_letters : (status_letter the_status.Suspended ≡ codes "S") × (status_letter the_status.Queuing ≡ codes "Q") × (status_letter the_status.Trading ≡ codes "T") × (status_letter the_status.Halted ≡ codes "H")
status_letters = (encode_ascii 0x53 (lit< tt), encode_ascii 0x51 (lit< tt), encode_ascii 0x54 (lit< tt), encode_ascii 0x48 (lit< tt))

abbrev pub issue_letter : Issue → List ℕ
issue_letter x = letter (issue_byte x)

pub issue_letters : (issue_letter the_issue.Periodic ≡ codes "i") × (issue_letter the_issue.Indicative ≡ codes "I") × (issue_letter the_issue.Initial ≡ codes "S") × (issue_letter the_issue.Reissued ≡ codes "R")
issue_letters = (encode_ascii 0x69 (lit< tt), encode_ascii 0x49 (lit< tt), encode_ascii 0x53 (lit< tt), encode_ascii 0x52 (lit< tt))

abbrev pub listing_letter : Listing → List ℕ
listing_letter x = letter (listing_byte x)

pub listing_letters : (listing_letter the_listing.Active ≡ codes "A") × (listing_letter the_listing.Inactive ≡ codes "I") × (listing_letter the_listing.Test ≡ codes "T")
listing_letters = (encode_ascii 0x41 (lit< tt), encode_ascii 0x49 (lit< tt), encode_ascii 0x54 (lit< tt))

-- the byte itself, since a normal trade has a space
abbrev pub condition_letter : Condition → ℕ
condition_letter x = condition_byte x
