-- A card that was accepted answers a newest minute that tells of each later minute what that of the history tells.
use Rattle.std.proofs.Common.{◌≡◌, inl, inr, ℕ, ◌/◌, ◌<◌, ◌≤◌, true, None, List, [], ◌++◌, length, All, refl, ap, subst, ◌∙◌, sym, arith}
use Rattle.std.specs.Prelude.{◌↔◌, nat_lt}
use Rattle.std.proofs.lemmas.Bool.{lt-ltb}
use Rattle.std.proofs.lemmas.List.Elements.{All-weaker}
use Rattle.activity_codec.specs.declared.entries.Entry.{Entry}
use Rattle.tacho_types.specs.declared.texts.Registration.{Registration}
use Rattle.trace_model.specs.declared.Card.{Card}
use Rattle.trace_model.specs.declared.Card.TheVariants.{A, B}
use Rattle.tach_media.specs.Medium.{State}
use Rattle.card_layout.specs.declared.files.Application.{Application}
use Rattle.card_layout.specs.Application.{IsApplication}
use Rattle.card_layout.specs.Files.{image_size_of}
use Rattle.card_validity.specs.card_image.Fields.{session_time}
use Rattle.card_validity.specs.card_image.Judging.{IsValid}
use Rattle.card_validity.specs.card_image.Own.{own_sizes, own_view}
use Rattle.card_validity.specs.card_image.View.{CardView, card_view}
use Rattle.card_session.specs.Sessions.{Session, IsSession, newest_in, book_of}
use Rattle.card_session.specs.Inserting.{IsCardInserted}
use Rattle.card_session.proofs.Renewing.{closed_answered}
use Rattle.unit_minutes.specs.unit_model.Image.{last_kept}
use Rattle.unit_rule.specs.history_model.Minutes.{HistoryMinute, card_history, up_to}
use Rattle.unit_rule.specs.history_model.Presence.{Start, CardStart, card_start, expected_entries, trimmed_by, newest_by, newest_minute}
use Rattle.unit_rule.specs.history_model.Book.{Book, all}
use Rattle.unit_rule.proofs.history_model.Books.{all-none, up_to-whole}
use Rattle.unit_rule.proofs.history_model.Filters.{filter-whole}
use Rattle.unit_rule.specs.device_rule.Views.{UnitView, unit_view, row, owed, owed_in, newest_with, beyond}
use Rattle.unit_rule.specs.device_rule.Rules.{Meets, Out, IsEntered}
use Rattle.unit_rule.proofs.device_rule.Holding.{presence-tied}
use Rattle.unit_rule.proofs.device_rule.Owing.{owed-new}
use Rattle.device_calls.specs.Rule.{Both, opened, number_of, card_seen, AnyString, CardHolds}
use Rattle.device_calls.proofs.OnCard.{own-is, session-is}
use Rattle.device_calls.proofs.Inserted.{beyond_open, beyond_shut}

module _ (start : Start) (r : Both) (c : Card) (b : Book) (now newest : ℕ) (U X : State) (same : card_start start c ≡ (opened r c).start) (none : b.maybe ≡ None) (rule : CardHolds r c b Out [] [] U X)
    (entered : IsEntered (opened r c).start (opened r c).began now newest (card_seen X)) (u x : List ℕ) (on : U.may_leave u) (there : X.may_leave x) (sure : All (λ i. i.minute ≤ last_kept u) b.sure) (late : last_kept u < now / 60) where
  abbrev brings : CardStart
  brings = (opened r c).start

  abbrev v : UnitView
  v = unit_view (number_of r A) (number_of r B) u

  last_is : (unit_view (number_of r A) (number_of r B) u).last ≡ last_kept u
  unfolding unit_view
  last_is = refl

  meets : Meets c (opened r c).start AnyString (all b) Out v (own_view x)
  meets = rule.dark.meets v (own_view x) (u, on, refl) (x, there, refl)

  nothing : owed c v (own_view x) ≡ []
  nothing =
      ap (λ (s : ℕ). owed_in (row c v) v.last s (own_view x).mark) (entered.session (own_view x) (x, there, refl))
      ∙ owed-new (row c v) v.last now (own_view x).mark (omega (arith, last_is, late))

  sure_last : All (λ i. i.minute ≤ v.last) b.sure
  sure_last = subst (λ (n : ℕ). All (λ (i : HistoryMinute). i.minute ≤ n) b.sure) (sym last_is) sure

  -- the newest minute of the card is that of the expected entries
  newest_is : (own_view x).newest ≡ trimmed_by brings (brings.entries ++ (brings.owed ++ card_history c b.sure))
  newest_is =
      ap (newest_with (own_view x)) (sym nothing) ∙ meets.newest
      ∙ ap (λ (es : List Entry). trimmed_by brings (brings.entries ++ es)) (meets.whole ∙ ap (λ (is : List HistoryMinute). brings.owed ++ card_history c is) (ap (up_to v.last) (all-none b none) ∙ up_to-whole v.last b.sure sure_last))

  tied : (m : ℕ) → brings.word < m → (newest < m) ↔ (newest_by brings (brings.entries ++ (brings.owed ++ card_history c b.sure)) < m)
  tied m later =
      let answer = entered.answered (own_view x) (x, there, refl) in
      presence-tied brings (brings.entries ++ (brings.owed ++ card_history c b.sure)) newest newest m (omega (arith, newest_is, answer.0)) (omega (arith, newest_is, answer.1)) later

  early : (i : HistoryMinute) → i.minute ≤ last_kept u → nat_lt i.minute (now / 60) ≡ true
  early i le = lt-ltb i.minute (now / 60) (omega (arith, le, late))

  history : newest_minute start b.sure c now ≡ newest_by brings (brings.entries ++ (brings.owed ++ card_history c b.sure))
  unfolding newest_minute
  history =
      ap (λ (past : List HistoryMinute). newest_by (card_start start c) (expected_entries start c past))
      (filter-whole (λ i. nat_lt i.minute (now / 60)) b.sure (All-weaker (λ (i : HistoryMinute). i.minute ≤ last_kept u) (λ i. nat_lt i.minute (now / 60) ≡ true) early b.sure sure))
      ∙ ap (λ (s : CardStart). newest_by s (s.entries ++ (s.owed ++ card_history c b.sure))) same

  pub accepted-told : (m : ℕ) → (card_start start c).word < m → (newest < m) ↔ (newest_minute start b.sure c now < m)
  accepted-told m later = subst (λ (n : ℕ). (newest < m) ↔ (n < m)) (sym history) (tied m (subst (λ (s : CardStart). s.word < m) same later))

-- ---- the first time

zero_session : (n : ℕ) → (n ≡ 0 → ⊥) → 0 < n
zero_session n some = omega (arith, some)

pub words-known : (app : Application) (registration : Registration) (odometer now : ℕ) (es : List Entry) (x y : List ℕ) (t : Session) → IsApplication app → image_size_of app ≤ length x → length registration.0 ≡ 15 → own_sizes x ≡ app → IsValid app x
    → IsCardInserted app registration odometer es now x y → t.application ≡ app → IsSession t y → beyond (own_view x) ≤ t.minute
words-known app registration odometer now es x y t sound fits long is valid done same knows =
    subst (λ (v : CardView). beyond v ≤ t.minute) (sym (own-is app x is)) (by done)
  where
    by : IsCardInserted app registration odometer es now x y → beyond (card_view app x) ≤ t.minute
    by (inl closed) =
        let answer = closed_answered app sound x fits registration long now valid closed.0 y closed.1 in
        let minute : t.minute ≡ newest_in (book_of app y) = knows.minute ∙ ap (λ (p : Application). newest_in (book_of p y)) same in
        omega (arith, minute, answer, beyond_shut (card_view app x) (session-is app x ∙ closed.0))
    by (inr open_) = omega (arith, beyond_open (card_view app x) (omega (arith, session-is app x, zero_session (session_time app x) open_.0)))
