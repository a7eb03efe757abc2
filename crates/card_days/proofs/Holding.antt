-- What an image holds while its string is written.
use Rattle.std.proofs.Common.{◌≡◌, ℕ, ◌+◌, ◌≤◌, List, [], ◌∷◌, ◌++◌, length, refl, sym, ◌∙◌, ap, subst, append_assoc}
use Rattle.tach_media.specs.Medium.{put, bytes_at}
use Rattle.card_model.specs.Bytes.{number, two_bytes}
use Rattle.card_model.specs.Days.{Day, len_of, total, far, word_bytes, body, record_of, records, IsDay}
use Rattle.card_model.specs.Changes.{with_word}
use Rattle.card_model.specs.Image.{StringShape, IsStringShape, turned, oldest_pointer, newest_pointer, circle_of, IsPointer, IsPlace, HoldsDays}
use Rattle.card_model.proofs.Circle.{put_back, turned_front}
use Rattle.card_model.proofs.Lists.{word_bytes-append, record_length, records_length, previous_of, far_last, days_after}
use Rattle.card_days.proofs.Lists.{some_appended, another_newest, longer_by_two}
use Rattle.card_days.proofs.Places.{Stands, Turned}
use Rattle.card_model.proofs.Reading.{place_between, spelled_at}

module _ (r : StringShape) (shape : IsStringShape r) (x : List ℕ) (inside : r.base + (4 + r.size) ≤ length x) where
  -- a write behind the records
  pub beyond : (days : List Day) (k j : ℕ) (b y : List ℕ) (h : HoldsDays r x days) → k ≡ total days + j → Stands r k b x y → (days ≡ [] → number (bytes_at (circle_of r y) 2 2) ≡ 0)
      → (g : HoldsDays r y days) × (g.rest ≡ put j b h.rest) × (g.previous ≡ h.previous)
  beyond days k j b y h at_k stands empty =
      let a = records h.previous days in (
        record {
          oldest = subst (λ (n : ℕ). IsPointer r.size n) (sym stands.oldest) h.oldest;
          newest = subst (λ (n : ℕ). IsPointer r.size n) (sym stands.newest) h.newest;
          distance = subst (λ (n : ℕ). IsPlace r.size n (far days) (newest_pointer r y)) (sym stands.oldest) (subst (λ (n : ℕ). IsPlace r.size (oldest_pointer r x) (far days) n) (sym stands.newest) h.distance);
          previous = h.previous;
          rest = put j b h.rest;
          spelled = stands.circle ∙ ap (λ (l : List ℕ). put k b l) h.spelled ∙ ap (λ (n : ℕ). put n b (a ++ h.rest)) (at_k ∙ ap (λ (n : ℕ). n + j) (sym (records_length h.previous days))) ∙ put_back j b a h.rest;
          empty = empty;
          ordered = h.ordered;
        },
        refl,
        refl,
      )

  -- the commit of a word that stands behind the newest day
  pub longer : (older : List Day) (d : Day) (w : ℕ) (h : HoldsDays r x (older ++ d ∷ [])) (rest z : List ℕ) → h.rest ≡ two_bytes w ++ rest → Stands r (total older + 2) (two_bytes (len_of d + 2)) x z → IsDay (with_word w d) → HoldsDays r z (older ++ with_word w d ∷ [])
  longer older d w h rest z written stands is =
      let e = previous_of h.previous older in
      let f = with_word w d in
      let a = records h.previous older in
      let b = two_bytes (len_of d + 2) in
      let back = record_of e d ++ (two_bytes w ++ rest) in
      let before : circle_of r x ≡ a ++ back = h.spelled ∙ spelled_at h.previous older d [] h.rest ∙ ap (λ (l : List ℕ). a ++ (record_of e d ++ l)) written in
      let words : word_bytes d.words ++ (two_bytes w ++ rest) ≡ word_bytes f.words ++ rest = sym (append_assoc (word_bytes d.words) (two_bytes w) rest) ∙ ap (λ (l : List ℕ). l ++ rest) (sym (word_bytes-append d.words (w ∷ []))) in
      let same_far : far (older ++ f ∷ []) ≡ far (older ++ d ∷ []) = far_last older f ∙ sym (far_last older d) in
      record {
        oldest = subst (λ (n : ℕ). IsPointer r.size n) (sym stands.oldest) h.oldest;
        newest = subst (λ (n : ℕ). IsPointer r.size n) (sym stands.newest) h.newest;
        distance = subst (λ (n : ℕ). IsPlace r.size n (far (older ++ f ∷ [])) (newest_pointer r z)) (sym stands.oldest)
            (subst (λ (n : ℕ). IsPlace r.size (oldest_pointer r x) (far (older ++ f ∷ [])) n) (sym stands.newest) (subst (λ (n : ℕ). IsPlace r.size (oldest_pointer r x) n (newest_pointer r x)) (sym same_far) h.distance));
        previous = h.previous;
        rest = rest;
        spelled = stands.circle ∙ ap (λ (l : List ℕ). put (total older + 2) b l) before
            ∙ ap (λ (n : ℕ). put (n + 2) b (a ++ back)) (sym (records_length h.previous older)) ∙ put_back 2 b a back
            ∙ ap (λ (n : ℕ). a ++ (two_bytes e ++ (two_bytes n ++ (body d ++ (two_bytes w ++ rest))))) (sym (longer_by_two w d))
            ∙ ap (λ (l : List ℕ). a ++ (two_bytes e ++ (two_bytes (len_of f) ++ (body (record d { words = [] }) ++ l)))) words
            ∙ sym (spelled_at h.previous older f [] rest);
        empty = λ none. absurd (some_appended older f none);
        ordered = another_newest 0 older d f refl is h.ordered;
      }

  -- the oldest pointer moved behind the first of several days
  pub without_first : (d e : Day) (ds : List Day) (p : ℕ) (y : List ℕ) → HoldsDays r x (d ∷ e ∷ ds) → IsPointer r.size p → IsPlace r.size (oldest_pointer r x) (len_of d) p → Turned r (len_of d) p x y → HoldsDays r y (e ∷ ds)
  without_first d e ds p y h pointer place turns =
      let front = record_of h.previous d in
      let later = records (len_of d) (e ∷ ds) in
      let n = newest_pointer r x in
      record {
        oldest = subst (λ (n : ℕ). IsPointer r.size n) (sym turns.oldest) pointer;
        newest = subst (λ (n : ℕ). IsPointer r.size n) (sym turns.newest) h.newest;
        distance = subst (λ (n : ℕ). IsPlace r.size n (far (e ∷ ds)) (newest_pointer r y)) (sym turns.oldest)
            (subst (λ (n : ℕ). IsPlace r.size p (far (e ∷ ds)) n) (sym turns.newest) (place_between r.size (oldest_pointer r x) (len_of d) p (far (e ∷ ds)) n pointer.below h.newest.below place h.distance));
        previous = len_of d;
        rest = h.rest ++ front;
        spelled = turns.circle ∙ ap (λ (l : List ℕ). turned (len_of d) l) (h.spelled ∙ append_assoc front later h.rest)
            ∙ turned_front front (later ++ h.rest) (len_of d) (record_length h.previous d) ∙ append_assoc later h.rest front;
        empty = λ none. absurd (nothing none);
        ordered = days_after 0 d (e ∷ ds) h.ordered;
      }
    where
      nothing : e ∷ ds ≡ [] → ⊥
      nothing none = cc

  -- the length before the oldest day was written
  pub finished : (e : Day) (ds : List Day) (previous : ℕ) (y : List ℕ) → HoldsDays r x (e ∷ ds) → Stands r 0 (two_bytes previous) x y → HoldsDays r y (e ∷ ds)
  finished e ds previous y h stands = record {
    oldest = subst (λ (n : ℕ). IsPointer r.size n) (sym stands.oldest) h.oldest;
    newest = subst (λ (n : ℕ). IsPointer r.size n) (sym stands.newest) h.newest;
    distance = subst (λ (n : ℕ). IsPlace r.size n (far (e ∷ ds)) (newest_pointer r y)) (sym stands.oldest) (subst (λ (n : ℕ). IsPlace r.size (oldest_pointer r x) (far (e ∷ ds)) n) (sym stands.newest) h.distance);
    previous = previous;
    rest = h.rest;
    spelled = stands.circle ∙ ap (λ (l : List ℕ). put 0 (two_bytes previous) l) h.spelled;
    empty = λ none. absurd (nothing none);
    ordered = h.ordered;
  }
    where
      nothing : e ∷ ds ≡ [] → ⊥
      nothing none = cc
