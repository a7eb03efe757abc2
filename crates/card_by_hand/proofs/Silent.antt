-- An entry by hand tells no minute of the card: where none behind the end mark told one, none does.
use Rattle.std.proofs.Common.{◌≡◌, ◌∙◌, ⊎_elim, ℕ, ◌+◌, ◌-◌, ◌*◌, ◌/◌, ◌%◌, ◌<◌, Bool, true, false, cond, Option, Some, None, List, [], ◌∷◌, ◌++◌, length, refl, sym, ap, subst}
use Rattle.std.specs.Prelude.{◌⊎◌, nat_eq, nat_le}
use Rattle.activity_codec.proofs.ByTest.{by_test}
use Rattle.activity_codec.specs.Words.{word_minute, word_absent}
use Rattle.activity_codec.specs.declared.entries.Manual.{Manual}
use Rattle.card_session.specs.card_model.Days.{Day}
use Rattle.card_session.specs.card_model.Changes.{Remain, fitting, with_newest, with_word, new_day, date_of}
use Rattle.card_session.proofs.card_model.Retention.{remain_fitting}
use Rattle.card_session.specs.card_retention.Expected.{is_newest}
use Rattle.card_session.specs.card_retention.Shown.{sizes}
use Rattle.card_session.specs.card_retention.Entries.{latest, told_by}
use Rattle.hand_model.specs.card_image.Fields.{card_days, end_mark}
use Rattle.hand_model.specs.Manual.{manual_word}
use Rattle.hand_model.proofs.Words.{absent_is}
use Rattle.card_session.specs.Books.{bare_word, with_change}
use Rattle.card_session.specs.Sessions.{Session, book_of}
use Rattle.card_session.specs.Overwriting.{IsSilentBehind}
use Rattle.card_session.specs.ByHand.{IsCardEntering, words_from, with_day_from, with_word_at, word_len}
use Rattle.card_session.proofs.Stopping.{book_days}

-- the last word in list order that is not later, of words and one more
latest_more : (ws : List ℕ) (w t : ℕ) → latest (ws ++ w ∷ []) t ≡ cond (nat_le (word_minute w) t) (Some w) (latest ws t)
latest_more [] w t = refl
latest_more (v ∷ ws) w t =
    ap (λ (o : Option ℕ). elim o as (λ _. Option ℕ) [ Some u ↦ Some u | None ↦ cond (nat_le (word_minute v) t) (Some v) None ]) (latest_more ws w t)
    ∙ by_test (nat_le (word_minute w) t) (λ yes. rw yes refl) (λ no. rw no refl)

-- a word that tells no card tells no minute
told_absent : (m w : ℕ) → word_absent w ≡ true → told_by m (Some w) ≡ None
told_absent m w absent = rw absent refl

told_more : (m t : ℕ) (ws : List ℕ) (w : ℕ) → word_absent w ≡ true → told_by m (latest ws t) ≡ None → told_by m (latest (ws ++ w ∷ []) t) ≡ None
told_more m t ws w absent none =
    ap (told_by m) (latest_more ws w t) ∙ by_test (nat_le (word_minute w) t) (λ yes. rw yes (told_absent m w absent)) (λ no. rw no none)

-- ---- days

silent_drops : (mark room : ℕ) (days kept : List Day) → Remain room days kept → IsSilentBehind mark days → IsSilentBehind mark kept
silent_drops mark room [] kept left is = subst (IsSilentBehind mark) (sym left) is
silent_drops mark room (d ∷ ds) kept left is = ⊎_elim
    (λ same. subst (IsSilentBehind mark) (sym same) is)
    (λ gone. silent_drops mark room ds kept gone.1 is.1) left

silent_word : (mark w : ℕ) (ds : List Day) → word_absent w ≡ true → IsSilentBehind mark ds → IsSilentBehind mark (with_newest (with_word w) ds)
silent_word mark w [] absent is = tt
silent_word mark w (d ∷ []) absent is = (λ t low behind. told_more (d.date / 60 + t) t d.words w absent (is.0 t low behind), tt)
silent_word mark w (d ∷ e ∷ ds) absent is = (is.0, silent_word mark w (e ∷ ds) absent is.1)

silent_append : (mark : ℕ) (ds : List Day) (d : Day) → IsSilentBehind mark ds → IsSilentBehind mark (d ∷ []) → IsSilentBehind mark (ds ++ d ∷ [])
silent_append mark [] d is last = last
silent_append mark (e ∷ ds) d is last = (is.0, silent_append mark ds d is.1 last)

-- a day that begins with such a word
silent_from : (mark minute w : ℕ) (days : List Day) → word_absent w ≡ true → IsSilentBehind mark (new_day days (date_of minute) (words_from minute w) ∷ [])
silent_from mark minute w days absent = by_test (nat_eq (minute % 1440) 0) (λ yes. rw yes (alone, tt)) (λ no. rw no (behind, tt))
  where
    alone : (t : ℕ) → t < 1440 → mark < date_of minute / 60 + t → told_by (date_of minute / 60 + t) (latest (w ∷ []) t) ≡ None
    alone t low late = told_more (date_of minute / 60 + t) t [] w absent refl

    behind : (t : ℕ) → t < 1440 → mark < date_of minute / 60 + t → told_by (date_of minute / 60 + t) (latest (bare_word ∷ w ∷ []) t) ≡ None
    behind t low late = told_more (date_of minute / 60 + t) t (bare_word ∷ []) w absent (told_more (date_of minute / 60 + t) t [] bare_word refl refl)

-- at each moment of an entry by hand
silent_moment : (size mark minute w : ℕ) (days kept : List Day) → word_absent w ≡ true → IsSilentBehind mark days → (Remain (size - word_len minute w days) days kept) ⊎ (kept ≡ with_word_at size minute w days) → IsSilentBehind mark kept
silent_moment size mark minute w days kept absent is moment = ⊎_elim
    (λ gone. silent_drops mark (size - word_len minute w days) days kept gone is)
    (λ done. subst (IsSilentBehind mark) (sym done) (by (is_newest (minute / 1440) (sizes days))))
    moment
  where
    by : (n : Bool) → IsSilentBehind mark (cond n (with_change size w days) (with_day_from size minute w days))
    by true = silent_word mark w (fitting (size - 2) days) absent (silent_drops mark (size - 2) days (fitting (size - 2) days) (remain_fitting (size - 2) days) is)
    by false =
        let room : ℕ = size - (12 + 2 * length (words_from minute w)) in
        silent_append mark (fitting room days) (new_day days (date_of minute) (words_from minute w)) (silent_drops mark room days (fitting room days) (remain_fitting room days) is) (silent_from mark minute w days absent)

-- of a card
pub silent_stays : (s : Session) (e : Manual) (x c : List ℕ) → IsCardEntering s e x c → end_mark s.application c ≡ end_mark s.application x
    → IsSilentBehind (end_mark s.application x) (card_days s.application x) → IsSilentBehind (end_mark s.application c) (card_days s.application c)
silent_stays s e x c entering same is =
    let a = s.application in
    let was : IsSilentBehind (end_mark s.application x) (book_of s.application x).days = subst (IsSilentBehind (end_mark a x)) (sym (book_days a x)) is in
    let there = silent_moment a.activity (end_mark a x) e.minute (manual_word e) (book_of a x).days (book_of a c).days (absent_is e) was entering.card.told.0 in
    subst (λ (n : ℕ). IsSilentBehind n (card_days s.application c)) (sym same) (subst (IsSilentBehind (end_mark a x)) (book_days a c) there)
