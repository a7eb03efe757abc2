-- The entries by hand of a word more, and of a day more.
use Rattle.std.proofs.Common.{◌≡◌, ◌∙◌, ℕ, ◌+◌, ◌/◌, Bool, true, false, cond, List, [], ◌∷◌, ◌++◌, refl, sym, ap, append_assoc, append-nil}
use Rattle.std.specs.Prelude.{◌&&◌, nat_le}
use Rattle.activity_codec.specs.Words.{word_minute}
use Rattle.card_image.specs.card_model.Days.{Day}
use Rattle.activity_codec.specs.declared.entries.Manual.{Manual}
use Rattle.hand_model.specs.Manual.{is_by_hand, tells_by_hand}
use Rattle.hand_model.specs.ByHand.{words_by_hand, by_hand_up_to}

-- what a word more tells
abbrev pub one_more : (mark date w : ℕ) → List Manual
one_more mark date w = cond (is_by_hand w && nat_le (date / 60 + word_minute w) mark) (tells_by_hand date w ∷ []) []

pub words_append : (mark date : ℕ) (ws : List ℕ) (w : ℕ) → words_by_hand mark date (ws ++ w ∷ []) ≡ words_by_hand mark date ws ++ one_more mark date w
words_append mark date [] w = refl
words_append mark date (v ∷ ws) w = by (is_by_hand v && nat_le (date / 60 + word_minute v) mark) (words_append mark date ws w)
  where
    by : (b : Bool) → words_by_hand mark date (ws ++ w ∷ []) ≡ words_by_hand mark date ws ++ one_more mark date w
        → cond b (tells_by_hand date v ∷ words_by_hand mark date (ws ++ w ∷ [])) (words_by_hand mark date (ws ++ w ∷ []))
        ≡ cond b (tells_by_hand date v ∷ words_by_hand mark date ws) (words_by_hand mark date ws) ++ one_more mark date w
    by true rest = ap (λ (l : List Manual). tells_by_hand date v ∷ l) rest
    by false rest = rest

pub up_to_append : (mark : ℕ) (ds : List Day) (d : Day) → by_hand_up_to mark (ds ++ d ∷ []) ≡ by_hand_up_to mark ds ++ words_by_hand mark d.date d.words
up_to_append mark [] d = append-nil (words_by_hand mark d.date d.words)
up_to_append mark (e ∷ ds) d = ap (λ (l : List Manual). words_by_hand mark e.date e.words ++ l) (up_to_append mark ds d) ∙ sym (append_assoc (words_by_hand mark e.date e.words) (by_hand_up_to mark ds) (words_by_hand mark d.date d.words))
