-- What the report of a block says. Assumes nothing.
use Rattle.std.specs.Prelude.{◌≡◌, ◌++◌, Ok, Err, Some, None, string_bytes, codes, Result}
use Rattle.wire_types.specs.Refusals.{Refusal}
use Rattle.wire_types.specs.declared.header.Header.{Header}
use Rattle.wire_types.specs.Words.{told}
use Rattle.wire_report.specs.declared.report.Report.{Report}

-- the refusal is all that is said, and no messages are counted
pub record Refuses (f : Refusal) (p : Report) : Type 0 where
  pub text : string_bytes p.text ≡ told f ++ codes "\n"
  pub messages : p.messages ≡ None

-- the header's messages are counted
pub record Accepts (h : Header) (p : Report) : Type 0 where
  pub messages : p.messages ≡ Some h.count

-- a block is reported as it is checked
abbrev pub Reports : Result Header Refusal → Report → Type 0
Reports (Ok h) p = Accepts h p
Reports (Err f) p = Refuses f p
