-- Which types of messages are known, and how long each is at least. Assumes nothing.
use Rattle.std.specs.Prelude.{ℕ, cond, ◌==◌}
use Rattle.wire_types.specs.declared.header.Carrier.{Carrier}
use Rattle.wire_types.specs.declared.header.Carrier.TheVariants.{Datagram, Spin}
use Rattle.wire_types.specs.declared.kind.FixedKind.{FixedKind}
use Rattle.wire_types.specs.declared.kind.FixedKind.TheVariants as the
use Rattle.wire_types.specs.declared.kind.Kind.{Kind}
use Rattle.wire_types.specs.declared.kind.Kind.TheVariants as the_kind

-- the types that every block knows
abbrev pub top_kind : ℕ → Kind
top_kind b =
    cond (b == 0x20) (the_kind.Fixed the.Time)
    (cond (b == 0xB1) (the_kind.Fixed the.TimeReference)
    (cond (b == 0x97) (the_kind.Fixed the.UnitClear)
    (cond (b == 0x31) (the_kind.Fixed the.TradingStatus)
    (cond (b == 0xB2) (the_kind.Fixed the.SnapshotShort)
    (cond (b == 0xB3) (the_kind.Fixed the.SnapshotLong)
    (cond (b == 0xB4) (the_kind.Fixed the.SingleSideShort)
    (cond (b == 0xB5) (the_kind.Fixed the.SingleSideLong)
    (cond (b == 0xB6) (the_kind.Fixed the.TwoSideShort)
    (cond (b == 0xB7) (the_kind.Fixed the.TwoSideLong)
    (cond (b == 0xB8) (the_kind.Fixed the.TopTrade)
    (cond (b == 0xB9) (the_kind.Fixed the.Settlement)
    (cond (b == 0xBB) the_kind.Definition
    (cond (b == 0xBE) (the_kind.Fixed the.PriceLimits)
    (cond (b == 0x2D) (the_kind.Fixed the.EndOfSession)
    (cond (b == 0xBA) (the_kind.Fixed the.EndOfDaySummary)
    (cond (b == 0xD3) (the_kind.Fixed the.OpenInterest)
    the_kind.Unlisted))))))))))))))))

-- the types that a block knows: spin blocks know three more
abbrev pub kind_of : Carrier → ℕ → Kind
kind_of Datagram b = top_kind b
kind_of Spin b =
    cond (b == 0x80) (the_kind.Fixed the.SpinImageAvailable)
    (cond (b == 0x82) (the_kind.Fixed the.SpinResponse)
    (cond (b == 0x83) (the_kind.Fixed the.SpinFinished)
    (top_kind b)))

-- the length of a table
abbrev pub table_length : FixedKind → ℕ
table_length the.Time = 10
table_length the.TimeReference = 18
table_length the.UnitClear = 6
table_length the.TradingStatus = 18
table_length the.SnapshotShort = 37
table_length the.SnapshotLong = 61
table_length the.SingleSideShort = 17
table_length the.SingleSideLong = 25
table_length the.TwoSideShort = 20
table_length the.TwoSideLong = 36
table_length the.TopTrade = 37
table_length the.Settlement = 25
table_length the.PriceLimits = 28
table_length the.EndOfSession = 6
table_length the.EndOfDaySummary = 65
table_length the.OpenInterest = 20
table_length the.SpinImageAvailable = 6
table_length the.SpinResponse = 11
table_length the.SpinFinished = 6

-- the least length of a message: its table's, for a definition that of the fixed part, else Length and type
abbrev pub least : Kind → ℕ
least (the_kind.Fixed t) = table_length t
least the_kind.Definition = 45
least the_kind.Unlisted = 2
