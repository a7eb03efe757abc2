-- The pieces that went to a sink.
use Rattle.std.proofs.Common.{◌≡◌, ◌∙◌, ℕ, ◌+◌, ◌<◌, List, [], ◌∷◌, ◌++◌, length, get_or, take, drop, Option, refl, ap, sym, subst, append_assoc, append-nil}
use Rattle.std.proofs.lemmas.List.{take_more, take-append-drop}
use Rattle.std.specs.Io.KnownBytes.{Appends}
use Rattle.std.proofs.KnownBytes.{Appends-trans}
use Rattle.tach_media.specs.Streams.{AppendsFront}
use Rattle.unit_download.proofs.Fronts.{front_cut}
use Rattle.file_json.specs.declared.pieces.Piece.{Piece}
use Rattle.file_json.specs.declared.pieces.Piece.TheVariants.{UnitBegin}
use Rattle.file_json.specs.Pieces.{piece_text, pieces_text}

-- what stands for a piece past the end
abbrev pub no_piece : Piece
no_piece = UnitBegin

pieces_more : (b : List ℕ) (ps qs : List Piece) → pieces_text b (ps ++ qs) ≡ pieces_text b ps ++ pieces_text b qs
pieces_more b [] qs = refl
pieces_more b (p ∷ ps) qs = ap (λ (l : List ℕ). piece_text b p ++ l) (pieces_more b ps qs) ∙ sym (append_assoc (piece_text b p) (pieces_text b ps) (pieces_text b qs))

module _ (b : List ℕ) (pieces : List Piece) (i : ℕ) (low : i < length pieces) (h m k : Option (List ℕ)) where
  one_more : pieces_text b (take (i + 1) pieces) ≡ pieces_text b (take i pieces) ++ piece_text b (get_or pieces i no_piece)
  one_more = ap (λ (l : List Piece). pieces_text b l) (take_more pieces i no_piece low) ∙ pieces_more b (take i pieces) (get_or pieces i no_piece ∷ [])
      ∙ ap (λ (l : List ℕ). pieces_text b (take i pieces) ++ l) (append-nil (piece_text b (get_or pieces i no_piece)))

  pub piece_put : Appends h m (pieces_text b (take i pieces)) → Appends m k (piece_text b (get_or pieces i no_piece)) → Appends h k (pieces_text b (take (i + 1) pieces))
  piece_put before now = subst (λ (l : List ℕ). Appends h k l) (sym one_more) (Appends-trans h m k (pieces_text b (take i pieces)) (piece_text b (get_or pieces i no_piece)) before now)

  pub piece_cut : Appends h m (pieces_text b (take i pieces)) → AppendsFront m k (piece_text b (get_or pieces i no_piece)) → AppendsFront h k (pieces_text b pieces)
  piece_cut before now =
      front_cut h m k (pieces_text b (take i pieces)) (piece_text b (get_or pieces i no_piece)) (pieces_text b (drop (i + 1) pieces)) (pieces_text b pieces) before now
      (ap (λ (l : List ℕ). l ++ pieces_text b (drop (i + 1) pieces)) (sym one_more) ∙ sym (pieces_more b (take (i + 1) pieces) (drop (i + 1) pieces))
      ∙ ap (λ (l : List Piece). pieces_text b l) (take-append-drop (i + 1) pieces))
