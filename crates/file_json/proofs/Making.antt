-- The pieces that are still to be made.
use Rattle.std.proofs.Common.{◌≡◌, ◌∙◌, ℕ, ◌+◌, ◌≤◌, List, [], ◌∷◌, ◌++◌, length, drop, All, refl, ap, sym, arith, append_assoc, append-nil, length-drop}
use Rattle.std.specs.Prelude.{Option, Bool, true, false}
use Rattle.std.proofs.lemmas.List.{drop-drop}
use Rattle.std.proofs.lemmas.List.Elements.{All-nil, All-cons, All-append, All-push, All-same}
use Rattle.json.specs.Json.{object, Items, no_items, item, Members}
use Rattle.json.specs.Print.{print, print_from, escape_byte}
use Rattle.json.specs.Token.{Token}
use Rattle.json.specs.Tree.{json_tokens, items_tokens}
use Rattle.card_image.specs.CardFile.{FileEntry}
use Rattle.file_json.specs.declared.pieces.Piece.{Piece}
use Rattle.file_json.specs.declared.pieces.Piece.TheVariants.{UnitBegin, CardBegin, Comma, End}
use Rattle.file_json.specs.Pieces.{IsPiece, item_pieces, piece_text, pieces_text}
use Rattle.file_json.specs.Units.{json_of_messages}
use Rattle.file_json.specs.Cards.{json_of_card, entries_shown}
use Rattle.file_json.proofs.Printing.{comma, object_printed, end_printed}

-- the text of pieces, and of more
pieces_more : (b : List ℕ) (ps qs : List Piece) → pieces_text b (ps ++ qs) ≡ pieces_text b ps ++ pieces_text b qs
pieces_more b [] qs = refl
pieces_more b (p ∷ ps) qs = ap (λ (l : List ℕ). piece_text b p ++ l) (pieces_more b ps qs) ∙ sym (append_assoc (piece_text b p) (pieces_text b ps) (pieces_text b qs))

item_text : (b : List ℕ) (after : Bool) (piece : Piece) → pieces_text b (item_pieces after piece) ≡ comma after ++ piece_text b piece
item_text b true piece = ap (λ (l : List ℕ). 44 ∷ l) (append-nil (piece_text b piece))
item_text b false piece = append-nil (piece_text b piece)

item_each : (b : List ℕ) (after : Bool) (piece : Piece) → IsPiece b piece → All (IsPiece b) (item_pieces after piece)
item_each b true piece is = All-cons (IsPiece b) Comma (piece ∷ []) tt (All-cons (IsPiece b) piece [] is (All-nil (IsPiece b)))
item_each b false piece is = All-cons (IsPiece b) piece [] is (All-nil (IsPiece b))

-- what the items behind make, with the ends of their array and of the file
abbrev pub items_left : Bool → Items → List ℕ
items_left after items = print_from after (items_tokens items ++ Token.end_object ∷ []) ++ 10 ∷ []

-- the pieces that are made tell, with the items behind, the whole text
pub record AreMade (b : List ℕ) (items : Items) (after : Bool) (place : ℕ) (rest : List ℕ) (pieces : List Piece) (whole : List ℕ) : Type 0 where
  pub each : All (IsPiece b) pieces
  pub rest_is : rest ≡ drop place b
  pub within : place ≤ length b
  pub text : pieces_text b pieces ++ items_left after items ≡ whole

four : (p c r n : List ℕ) → (p ++ c) ++ (r ++ n) ≡ p ++ ((c ++ r) ++ n)
four p c r n = simp append_assoc

-- one item more
pub one_item_made : (ms : Members) (js : Items) (b : List ℕ) (after : Bool) (place len : ℕ) (rest behind : List ℕ) (pieces made : List Piece) (piece : Piece) (whole : List ℕ)
    → AreMade b (item (object ms) js) after place rest pieces whole → len ≤ length rest → behind ≡ drop len rest
    → IsPiece b piece → piece_text b piece ≡ print (json_tokens (object ms)) → made ≡ pieces ++ item_pieces after piece
    → AreMade b js true (place + len) behind made whole
one_item_made ms js b after place len rest behind pieces made piece whole are there behind_is is told made_is =
    let own : List ℕ = print (json_tokens (object ms)) in
    let end : List Token = Token.end_object ∷ [] in
    let others : List ℕ = print_from true (items_tokens js ++ Token.end_object ∷ []) in
    let made_text : pieces_text b made ≡ pieces_text b pieces ++ (comma after ++ print (json_tokens (object ms))) =
    ap (λ (l : List Piece). pieces_text b l) made_is ∙ pieces_more b pieces (item_pieces after piece)
    ∙ ap (λ (l : List ℕ). pieces_text b pieces ++ l) (item_text b after piece ∙ ap (λ (l : List ℕ). comma after ++ l) told) in
    let printed : print_from after (items_tokens (item (object ms) js) ++ Token.end_object ∷ []) ≡ (comma after ++ print (json_tokens (object ms))) ++ print_from true (items_tokens js ++ Token.end_object ∷ []) =
    ap (λ (ts : List Token). print_from after ts) (append_assoc (json_tokens (object ms)) (items_tokens js) end) ∙ object_printed after ms (items_tokens js ++ end) in
    record {
      each = All-same (IsPiece b) made (pieces ++ item_pieces after piece) made_is (All-append (IsPiece b) pieces (item_pieces after piece) are.each (item_each b after piece is));
      rest_is = behind_is ∙ ap (λ (l : List ℕ). drop len l) are.rest_is ∙ drop-drop len place b;
      within = omega (arith, are.within, there, ap (λ (l : List ℕ). length l) are.rest_is, length-drop place b);
      text = ap (λ (l : List ℕ). l ++ (print_from true (items_tokens js ++ Token.end_object ∷ []) ++ 10 ∷ [])) made_text
          ∙ four (pieces_text b pieces) (comma after ++ own) others (10 ∷ [])
          ∙ ap (λ (l : List ℕ). pieces_text b pieces ++ (l ++ 10 ∷ [])) (sym printed) ∙ are.text;
    }

-- an item that is left out
pub one_left_out : (js ks : Items) (b : List ℕ) (after : Bool) (place len : ℕ) (rest behind : List ℕ) (pieces : List Piece) (whole : List ℕ)
    → AreMade b js after place rest pieces whole → js ≡ ks → len ≤ length rest → behind ≡ drop len rest → AreMade b ks after (place + len) behind pieces whole
one_left_out js ks b after place len rest behind pieces whole are same there behind_is = record {
  each = are.each;
  rest_is = behind_is ∙ ap (λ (l : List ℕ). drop len l) are.rest_is ∙ drop-drop len place b;
  within = omega (arith, are.within, there, ap (λ (l : List ℕ). length l) are.rest_is, length-drop place b);
  text = ap (λ (k : Items). pieces_text b pieces ++ items_left after k) (sym same) ∙ are.text;
}

-- no item is left
pub all_made : (b : List ℕ) (after : Bool) (place : ℕ) (rest : List ℕ) (pieces made : List Piece) (whole : List ℕ)
    → AreMade b no_items after place rest pieces whole → made ≡ pieces ++ End ∷ [] → (pieces_text b made ≡ whole) × All (IsPiece b) made
all_made b after place rest pieces made whole are made_is = (
  ap (λ (l : List Piece). pieces_text b l) made_is ∙ pieces_more b pieces (End ∷ [])
      ∙ ap (λ (l : List ℕ). pieces_text b pieces ++ l) (sym (end_printed after)) ∙ are.text,
  All-same (IsPiece b) made (pieces ++ End ∷ []) made_is (All-push (IsPiece b) pieces End are.each tt),
)

-- the text of a file
abbrev pub unit_whole : Items → List ℕ
unit_whole items = print (json_tokens (json_of_messages items)) ++ 10 ∷ []

abbrev pub card_whole : Option ℕ → List FileEntry → List ℕ
card_whole last entries = print (json_tokens (json_of_card last entries)) ++ 10 ∷ []

-- none of its items is made
pub unit_begun : (b : List ℕ) (items : Items) (pieces : List Piece) → pieces ≡ UnitBegin ∷ [] → AreMade b items false 0 b pieces (unit_whole items)
unfolding print_from escape_byte
unit_begun b items pieces is = record {
  each = All-same (IsPiece b) pieces (UnitBegin ∷ []) is (All-cons (IsPiece b) UnitBegin [] tt (All-nil (IsPiece b)));
  rest_is = refl;
  within = omega arith;
  text = ap (λ (l : List Piece). pieces_text b l ++ items_left false items) is;
}

pub card_begun : (b : List ℕ) (last : Option ℕ) (entries : List FileEntry) (pieces : List Piece) → pieces ≡ CardBegin ∷ [] → AreMade b (entries_shown last 0 entries) false 0 b pieces (card_whole last entries)
unfolding print_from escape_byte
card_begun b last entries pieces is = record {
  each = All-same (IsPiece b) pieces (CardBegin ∷ []) is (All-cons (IsPiece b) CardBegin [] tt (All-nil (IsPiece b)));
  rest_is = refl;
  within = omega arith;
  text = ap (λ (l : List Piece). pieces_text b l ++ items_left false (entries_shown last 0 entries)) is;
}
