-- The definitions at work on the bytes of a few messages. Each statement is shown by computing it. Assumes nothing.
use Rattle.std.specs.Prelude.{◌≡◌, ℕ, Bool, true, false, List, [], ◌∷◌, ℤ, pos, negsuc, Some, None, Option}
use Rattle.wire_types.specs.declared.code.Issue.TheVariants.{Initial}
use Rattle.wire_types.specs.declared.code.Status.TheVariants.{Suspended, Trading}
use Rattle.wire_types.specs.declared.quote.Quote.{Quote}
use Rattle.market.specs.Effects.{no_quotes}
use Rattle.market.specs.Market.{Kind, start, gives, lacks}
use Rattle.market.specs.declared.row.Row.{Row}

abbrev pub everything : List ℕ → Bool
everything s = true

-- a kind that follows everything, with room for two rows
abbrev pub two_rows : Kind
two_rows = record { follows = everything; capacity = 2 }

-- "012345"
abbrev pub s012345 : List ℕ
s012345 = 0x30 ∷ 0x31 ∷ 0x32 ∷ 0x33 ∷ 0x34 ∷ 0x35 ∷ []

-- "00000" and one more byte
abbrev pub symbol_ending : ℕ → List ℕ
symbol_ending b = 0x30 ∷ 0x30 ∷ 0x30 ∷ 0x30 ∷ 0x30 ∷ b ∷ []

abbrev pub with_bid_ask : List ℕ → Option Quote → Option Quote → Row
with_bid_ask s b a = record { symbol = s; quotes = record { bid = b; ask = a; last = None; volume = 0; status = Suspended }; settlement = None; limits = None; definition = None }

abbrev pub quote : ℤ → ℕ → Option Quote
quote p q = Some (record { price = p; quantity = q })

-- a short Single Side Update: bid, price 0xFF85, quantity 200
abbrev pub negative_bid : List ℕ
negative_bid = 0x11 ∷ 0xB4 ∷ 0x30 ∷ 0xFA ∷ 0xD3 ∷ 0x29 ∷ 0x30 ∷ 0x31 ∷ 0x32 ∷ 0x33 ∷ 0x34 ∷ 0x35 ∷ 0x42 ∷ 0x85 ∷ 0xFF ∷ 0xC8 ∷ 0x00 ∷ []

-- it makes a row whose bid is −12,300 for 200
abbrev pub NegativeBidShown : Type 0
NegativeBidShown = (gives everything (negative_bid ∷ [])).rows ≡ with_bid_ask s012345 (quote (negsuc 12299) 200) None ∷ []

-- a short Two Side Update: bid 0x8000 for 1, ask 0x7FFF for 2
abbrev pub far_quotes : List ℕ
far_quotes = 0x14 ∷ 0xB6 ∷ 0x00 ∷ 0x00 ∷ 0x00 ∷ 0x00 ∷ 0x30 ∷ 0x31 ∷ 0x32 ∷ 0x33 ∷ 0x34 ∷ 0x35 ∷ 0x00 ∷ 0x80 ∷ 0x01 ∷ 0x00 ∷ 0xFF ∷ 0x7F ∷ 0x02 ∷ 0x00 ∷ []

-- the ends of short prices: −3,276,800 and 3,276,700
abbrev pub ShortPricesEndThere : Type 0
ShortPricesEndThere = (gives everything (far_quotes ∷ [])).rows ≡ with_bid_ask s012345 (quote (negsuc 3276799) 1) (quote (pos 3276700) 2) ∷ []

-- a Trading Status: trading, for a symbol that ends in a byte
abbrev pub trading : ℕ → List ℕ
trading b = 0x12 ∷ 0x31 ∷ 0x00 ∷ 0x00 ∷ 0x00 ∷ 0x00 ∷ 0x30 ∷ 0x30 ∷ 0x30 ∷ 0x30 ∷ 0x30 ∷ b ∷ 0x20 ∷ 0x20 ∷ 0x54 ∷ 0x20 ∷ 0x20 ∷ 0x20 ∷ []

abbrev pub in_trading : ℕ → Row
in_trading b = record { symbol = symbol_ending b; quotes = record { bid = None; ask = None; last = None; volume = 0; status = Trading }; settlement = None; limits = None; definition = None }

-- two messages in either order give ascending rows, a third instrument then finds no room, and one of the two still does
abbrev pub ThirdDoesNotFit : Type 0
ThirdDoesNotFit =
    ((gives everything (trading 0x32 ∷ trading 0x31 ∷ [])).rows ≡ in_trading 0x31 ∷ in_trading 0x32 ∷ [])
    × ((gives everything (trading 0x31 ∷ trading 0x32 ∷ [])).rows ≡ in_trading 0x31 ∷ in_trading 0x32 ∷ [])
    × (lacks two_rows (trading 0x33) (gives everything (trading 0x32 ∷ trading 0x31 ∷ [])) ≡ true)
    × (lacks two_rows (trading 0x31) (gives everything (trading 0x32 ∷ trading 0x31 ∷ [])) ≡ false)

-- a Settlement of 1.0000 for 20240313, initial, and a Unit Clear
abbrev pub settlement : List ℕ
settlement = 0x19 ∷ 0xB9 ∷ 0x00 ∷ 0x00 ∷ 0x00 ∷ 0x00 ∷ 0x30 ∷ 0x30 ∷ 0x30 ∷ 0x30 ∷ 0x30 ∷ 0x31 ∷ 0xB9 ∷ 0xD7 ∷ 0x34 ∷ 0x01 ∷ 0x10 ∷ 0x27 ∷ 0x00 ∷ 0x00 ∷ 0x00 ∷ 0x00 ∷ 0x00 ∷ 0x00 ∷ 0x53 ∷ []

abbrev pub unit_clear : List ℕ
unit_clear = 0x06 ∷ 0x97 ∷ 0x00 ∷ 0x00 ∷ 0x00 ∷ 0x00 ∷ []

abbrev pub settled_row : Row
settled_row = record { symbol = symbol_ending 0x31; quotes = no_quotes; settlement = Some (record { trade_date = 20240313; price = pos 10000; issue = Initial }); limits = None; definition = None }

-- a Unit Clear resets the status and keeps row and settlement
abbrev pub ClearKeepsSettlement : Type 0
ClearKeepsSettlement = (gives everything (trading 0x31 ∷ settlement ∷ unit_clear ∷ [])).rows ≡ settled_row ∷ []

-- a Time Reference: midnight 1, seconds 2, trade date 20240313; a Time: seconds 3, epoch 4
abbrev pub time_reference : List ℕ
time_reference = 0x12 ∷ 0xB1 ∷ 0x01 ∷ 0x00 ∷ 0x00 ∷ 0x00 ∷ 0x02 ∷ 0x00 ∷ 0x00 ∷ 0x00 ∷ 0x00 ∷ 0x00 ∷ 0x00 ∷ 0x00 ∷ 0xB9 ∷ 0xD7 ∷ 0x34 ∷ 0x01 ∷ []

abbrev pub time : List ℕ
time = 0x0A ∷ 0x20 ∷ 0x03 ∷ 0x00 ∷ 0x00 ∷ 0x00 ∷ 0x04 ∷ 0x00 ∷ 0x00 ∷ 0x00 ∷ []

-- each keeps what only the other sets
abbrev pub ClockGoesOn : Type 0
ClockGoesOn =
    ((gives everything (time_reference ∷ time ∷ [])).clock ≡ record { seconds = 3; epoch = 4; midnight = 1; trade_date = 20240313 })
    × ((gives everything (time ∷ time_reference ∷ [])).clock ≡ record { seconds = 2; epoch = 4; midnight = 1; trade_date = 20240313 })

-- bytes with a code that is not listed, and bytes that end early, do nothing
abbrev pub BrokenArePassed : Type 0
BrokenArePassed =
    (gives everything ((0x12 ∷ 0x31 ∷ 0x00 ∷ 0x00 ∷ 0x00 ∷ 0x00 ∷ 0x30 ∷ 0x30 ∷ 0x30 ∷ 0x30 ∷ 0x30 ∷ 0x31 ∷ 0x20 ∷ 0x20 ∷ 0x5A ∷ 0x20 ∷ 0x20 ∷ 0x20 ∷ []) ∷ []) ≡ start)
    × (gives everything ((0x12 ∷ 0x31 ∷ 0x00 ∷ []) ∷ []) ≡ start)
