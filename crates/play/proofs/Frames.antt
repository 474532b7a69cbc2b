-- Bytes cut into messages: one step of it, and what it gives of messages laid end to end.
use Rattle.std.proofs.Common.{◌≡◌, ℕ, zero, suc, ◌-◌, ◌<◌, ◌≤◌, true, ◌&&◌, leb, List, [], ◌∷◌, ◌++◌, length, get_or, take, drop, Ok, Err, sym, refl, ap, ◌∙◌, append_assoc, arith, length-append}
use Rattle.std.proofs.lemmas.List.{take_at, drop_at, drop_all, length-take-le}
use Rattle.std.proofs.lemmas.Bool.{and_from, le-leb, cond-true}
use Rattle.wire.specs.Laws.{end_to_end, AllWhole}
use Rattle.wire_messages.specs.Forms.{frame}
use Rattle.wire_messages.specs.Frames.{in_front, framed, messages_of}
use Rattle.wire_types.specs.Refusals.{Breach, breach}
use Rattle.wire_types.specs.declared.header.Carrier.{Carrier}
use Rattle.wire_types.specs.declared.header.Header.{Header}
use Rattle.play.specs.Plays.{AllOfAccepted}

pub framed_none : (bytes : List ℕ) → framed 0 bytes ≡ []
unfolding framed
framed_none bytes = refl

pub framed_more : (k : ℕ) (bytes m : List ℕ) → 0 < k → Ok m ≡ frame bytes → framed k bytes ≡ m ∷ framed (k - 1) (drop (length m) bytes)
unfolding framed
framed_more zero bytes m h e = absurd (omega arith)
framed_more (suc k) bytes m h e =
    let one : suc k - 1 ≡ k = omega arith in
    ap (λ r. in_front r bytes (λ rest. framed k rest)) (sym e) ∙ ap (λ n. m ∷ framed n (drop (length m) bytes)) (sym one)

pub framed_stop : (k : ℕ) (bytes : List ℕ) (e : Breach) → Err e ≡ frame bytes → framed k bytes ≡ []
unfolding framed
framed_stop zero bytes e is = refl
framed_stop (suc k) bytes e is = ap (λ r. in_front r bytes (λ rest. framed k rest)) (sym is)

-- a block that ends before its messages has none
pub too_short : (block : List ℕ) → length block < 8 → [] ≡ messages_of block
too_short block h = sym (ap (framed (get_or block 2 0)) (drop_all 8 block (omega arith)) ∙ framed_stop (get_or block 2 0) [] (breach 8 0) refl)

-- ---- accepted blocks

-- the front of bytes that begin with a whole message
get_d_front : (m rest : List ℕ) → 0 < length m → get_or (m ++ rest) 0 0 ≡ get_or m 0 0
get_d_front [] rest h = absurd (omega arith)
get_d_front (b ∷ m) rest h = refl

frame_front : (m rest : List ℕ) → length m ≡ get_or m 0 0 → 2 ≤ length m → Ok m ≡ frame (m ++ rest)
frame_front m rest long least =
    let bytes : List ℕ = m ++ rest in
    let n : get_or bytes 0 0 ≡ length m = get_d_front m rest (omega arith) ∙ sym long in
    let whole : (leb 2 (get_or bytes 0 0) && leb (get_or bytes 0 0) (length bytes)) ≡ true =
    and_from _ _ (le-leb 2 (get_or bytes 0 0) (omega arith)) (le-leb (get_or bytes 0 0) (length bytes) (omega (arith, length-append m rest))) in
    sym (cond-true _ (Ok (take (get_or bytes 0 0) bytes)) (Err (breach 8 0)) whole ∙ ap (λ k. Ok (take k bytes)) n ∙ ap Ok (take_at m rest (length m) refl))

framed_whole : (carrier : Carrier) (ms : List (List ℕ)) (rest : List ℕ) → AllWhole carrier ms → framed (length ms) (end_to_end ms ++ rest) ≡ ms
framed_whole carrier [] rest all = framed_none rest
framed_whole carrier (m ∷ ms) rest all =
    let w = all.0 in
    let tail : List ℕ = end_to_end ms ++ rest in
    let one : suc (length ms) - 1 ≡ length ms = omega arith in
    ap (framed (suc (length ms))) (append_assoc m (end_to_end ms) rest)
    ∙ framed_more (suc (length ms)) (m ++ tail) m (omega arith) (frame_front m tail w.0 w.1)
    ∙ ap (λ xs. m ∷ framed (suc (length ms) - 1) xs) (drop_at m tail (length m) refl)
    ∙ ap (λ n. m ∷ framed n tail) one
    ∙ ap (λ xs. m ∷ xs) (framed_whole carrier ms rest all.1)

pub all_of_accepted : (block : List ℕ) → AllOfAccepted block
all_of_accepted block carrier unit h a =
    let eight : length (take 8 block) ≡ 8 = length-take-le 8 block a.«open».eight in
    let body : drop 8 block ≡ end_to_end a.messages ++ [] = ap (drop 8) a.begins.laid ∙ drop_at (take 8 block) (end_to_end a.messages ++ []) 8 eight in
    let count : get_or block 2 0 ≡ length a.messages = ap (λ (x : Header). x.count) (sym a.header) ∙ sym a.counted in
    ap (λ k. framed k (drop 8 block)) count ∙ ap (framed (length a.messages)) body ∙ framed_whole carrier a.messages [] a.begins.whole
