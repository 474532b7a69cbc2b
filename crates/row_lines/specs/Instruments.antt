-- What an instrument is, as text. Assumes nothing.
use Rattle.std.specs.Prelude.{ℕ, List, [], ◌++◌, Some, None, codes, decimal, Option, slice_index_or}
use Rattle.market.specs.Legs.{leg_count}
use Rattle.market.specs.declared.row.Definition.{Definition}
use Rattle.wire_types.specs.declared.instrument.Leg.{Leg}
use Rattle.row_lines.specs.Codes.{listing_letter}
use Rattle.row_lines.specs.Hex.{hex_symbol}
use Rattle.std.specs.Fmt.{signed_decimal}

-- RATIO SYMBOL behind a blank, or nothing
abbrev pub leg_part : Option Leg → List ℕ
leg_part None = []
leg_part (Some l) = codes " " ++ (signed_decimal l.ratio ++ (codes " " ++ hex_symbol l.symbol))

abbrev pub each_leg : List (Option Leg) → List ℕ
each_leg ls = leg_part (slice_index_or ls 0 None) ++ (leg_part (slice_index_or ls 1 None) ++ (leg_part (slice_index_or ls 2 None) ++ leg_part (slice_index_or ls 3 None)))

-- COUNT and each leg
abbrev pub legs_part : List (Option Leg) → List ℕ
legs_part ls = decimal (leg_count ls) ++ each_leg ls

-- FLAGS EXPIRATION SIZE LISTING INCREMENT CONTRACTDATE
abbrev pub terms_part : Definition → List ℕ
terms_part d =
    decimal d.flags ++ (codes " " ++ (decimal d.expiration
    ++ (codes " " ++ (decimal d.contract_size ++ (codes " " ++ (listing_letter d.listing
    ++ (codes " " ++ (signed_decimal d.increment ++ (codes " " ++ decimal d.contract_date)))))))))

-- REPORT TERMS legs COUNT ..
abbrev pub definition_part : Option Definition → List ℕ
definition_part None = codes "-"
definition_part (Some d) = hex_symbol d.report_symbol ++ (codes " " ++ (terms_part d ++ (codes " legs " ++ legs_part d.legs)))
