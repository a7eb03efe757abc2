-- The rules between two calls give what is promised at a run's end.
use Rattle.std.proofs.Common.{◌≡◌, inl, inr, ℕ, ◌<◌, ◌≤◌, All, Option, Some, None, List, [], ◌∷◌, ◌++◌, Contains, refl, ap, subst, ◌∙◌, sym, append_assoc}
use Rattle.std.specs.Prelude.{option_to_list}
use Rattle.std.proofs.lemmas.List.Elements.{Contains-append_right}
use Rattle.device_rule.specs.activity_codec.declared.entries.Entry.{Entry}
use Rattle.device_rule.specs.trace_model.declared.Card.{Card}
use Rattle.device_rule.specs.trace_model.declared.Card.TheVariants.{A, B}
use Rattle.tach_media.specs.Medium.{State}
use Rattle.device_rule.specs.unit_model.Days.{ShownDay}
use Rattle.device_rule.specs.unit_model.Image.{recorded}
use Rattle.device_rule.specs.history_model.Minutes.{HistoryMinute, card_history, up_to}
use Rattle.device_rule.specs.history_model.Presence.{CardStart, card_start}
use Rattle.device_rule.specs.history_model.Book.{Book, IsReached, IsNext, Follows}
use Rattle.device_rule.specs.View.{Held}
use Rattle.device_rule.specs.Own.{own_sizes, own_view, KeepsFrom, KeepsOf}
use Rattle.device_rule.specs.Fields.{card_days}
use Rattle.device_rule.specs.card_model.Days.{AreDays}
use Rattle.device_rule.specs.card_retention.Retains.{Rise}
use Rattle.device_rule.specs.Views.{UnitView, owed, unit_view, next_of}
use Rattle.device_rule.specs.Device.{Seen, seen, CoherentViews, IsFresh}
use Rattle.device_rule.specs.Rules.{UnitHolds, Showed, Meets, Had, Standing, CardDark, Acknowledges}
use Rattle.device_rule.specs.Filling.{FillsDays}
use Rattle.device_rule.proofs.history_model.Books.{history-append}
use Rattle.device_rule.proofs.Holding.{agree, unit-holds, card-holds}
use Rattle.device_rule.proofs.Overwriting.{owed-entries_count}
use Rattle.safety_model.specs.Recording.{Recording, card_image, brought, start_of, history_of, lost_of, unit_seen, IsPassed, MayCome}
use Rattle.safety_model.specs.Hands.{hands_done}
use Rattle.safety_model.specs.Cards.{CardShows}
use Rattle.safety_model.specs.Unit.{UnitShows}

-- what a book reached was passed in the history that it follows
pub passed-reached : (past : List HistoryMinute) (lost : List (List HistoryMinute)) (b : Book) (some : List HistoryMinute) → Follows past lost b → IsReached b some → IsPassed past lost some
passed-reached past lost b some f (inl front) = inl (front.0 ++ f.front.0, f.front.1 ∙ ap (λ (is : List HistoryMinute). is ++ f.front.0) front.1 ∙ append_assoc some front.0 f.front.0)
passed-reached past lost b some f (inr gone) = f.each some gone

comes-next : (past : List HistoryMinute) (lost : List (List HistoryMinute)) (b : Book) (some : List HistoryMinute) (next : Option HistoryMinute) → Follows past lost b → IsNext b some next → MayCome past lost some next
comes-next past lost b some None f comes = tt
comes-next past lost b some (Some i) f comes = passed-reached past lost b (some ++ i ∷ []) f comes

shown-days : (number_a number_b x : List ℕ) → (unit_view number_a number_b x).days ≡ recorded x
unfolding unit_view
shown-days number_a number_b x = refl

module _ (start : List ShownDay) (past : List HistoryMinute) (lost : List (List HistoryMinute)) (number_a number_b : List ℕ) (b : Book) (follows : Follows past lost b) where
  shows : (x : List ℕ) (first : ℕ) (s : Showed (FillsDays start) first b (unit_view number_a number_b x)) → (k : UnitShows start past lost x) × (k.some ≡ s.past)
  shows x first s = (
    record {
      some = s.past;
      passed = passed-reached past lost b s.past follows s.reached;
      next = s.next;
      comes = comes-next past lost b s.past s.next follows s.comes;
      days = subst (FillsDays start s.next s.past) (shown-days number_a number_b x) s.days;
    },
    refl,
  )

  -- every image that the unit might have left shows the start and a part of the history
  pub unit-minutes : (first began due : ℕ) (unit : State) → UnitHolds (FillsDays start) first began due b (seen (unit_view number_a number_b) unit) → (x : List ℕ) → unit.left_since began x → UnitShows start past lost x
  unit-minutes first began due unit holds x left = (shows x first (holds.since (unit_view number_a number_b x) (x, left, refl))).0

  -- and one that it might have left since a minute was acknowledged shows that minute
  pub unit-marked : (first began due : ℕ) (unit : State) (i : HistoryMinute) (clock : ℕ) → CoherentViews (seen (unit_view number_a number_b) unit) → UnitHolds (FillsDays start) first began due b (seen (unit_view number_a number_b) unit) → began ≤ clock →
      Acknowledges (λ u. u.last) i.minute clock (seen (unit_view number_a number_b) unit) → Contains b.sure i → (x : List ℕ) → unit.left_since clock x → (s : UnitShows start past lost x) × Contains s.some i
  unit-marked first began due unit i clock whole holds later marks sure x left =
      let held = unit-holds (FillsDays start) first began due b (seen (unit_view number_a number_b) unit) i clock whole holds later marks sure (unit_view number_a number_b x) (x, left, refl) in
      let k = shows x first held.0 in
      (k.0, subst (λ (is : List HistoryMinute). Contains is i) (sym k.1) held.1)

-- what is carried of a card gives what is stated of it
module _ (r : Recording) (c : Card) (Keeps : ℕ → List Entry → Held → Type 0) (gives : (next : ℕ) (all : List Entry) (held : Held) → Keeps next all held → KeepsFrom (card_image r c) (hands_done r c) next all held) where
  started : (c : Card) → card_start (start_of r) c ≡ brought r c
  started A = refl
  started B = refl

  module _ (b : Book) (follows : Follows (history_of r) (lost_of r) b) where
    card-shows : (x : List ℕ) (h : Had c (brought r c) Keeps b (own_view x)) → (k : CardShows r c x) × (k.more ≡ h.more)
    card-shows x h = (
      record {
        more = h.more;
        rest = h.rest ++ behind;
        whole = ap (λ (start : CardStart). start.entries ++ (start.owed ++ card_history c (history_of r))) (started c) ∙ ap (λ (es : List Entry). (brought r c).entries ++ es) (whole ∙ append_assoc h.more h.rest behind);
        kept = (h.next, gives h.next ((brought r c).entries ++ h.more) (own_view x).held h.left);
      },
      refl,
    )
      where
        later : List HistoryMinute
        later = option_to_list b.maybe ++ follows.front.0

        behind : List Entry
        behind = card_history c later

        whole : (brought r c).owed ++ card_history c (history_of r) ≡ (h.more ++ h.rest) ++ behind
        whole =
            ap (λ (is : List HistoryMinute). (brought r c).owed ++ card_history c is) (follows.front.1 ∙ append_assoc b.sure (option_to_list b.maybe) follows.front.0)
            ∙ ap (λ (es : List Entry). (brought r c).owed ++ es) (history-append c b.sure later) ∙ sym (append_assoc (brought r c).owed (card_history c b.sure) behind) ∙ ap (λ (es : List Entry). es ++ behind) h.whole

    -- every image that the card might have left shows its entries at the start and some of the further ones, from their front
    pub card-entries : (began : ℕ) (s : Standing) (unit : Seen UnitView) (card : State) → CardDark c (brought r c) Keeps began b s unit (seen own_view card) → (x : List ℕ) → card.left_since began x → CardShows r c x
    card-entries began s unit card dark x left = (card-shows x (dark.since (own_view x) (x, left, refl))).0

    -- and one that it might have left since an entry was acknowledged shows that entry
    pub card-marked : (began : ℕ) (s : Standing) (unit : Seen UnitView) (card : State) (e : Entry) (clock : ℕ) → CoherentViews (seen own_view card) → CardDark c (brought r c) Keeps began b s unit (seen own_view card) → began ≤ clock →
        Acknowledges (λ x. x.mark) e.minute clock (seen own_view card) → Contains ((brought r c).owed ++ card_history c b.sure) e → (x : List ℕ) → card.left_since clock x → (k : CardShows r c x) × Contains ((brought r c).entries ++ k.more) e
    card-marked began s unit card e clock whole dark later marks at x left =
        let held = card-holds c (brought r c) Keeps began b s unit (seen own_view card) e clock whole dark later marks at (own_view x) (x, left, refl) in
        let k = card-shows x held.0 in
        (k.0, subst (λ (es : List Entry). Contains ((brought r c).entries ++ es) e) (sym k.1) (Contains-append_right (brought r c).entries held.0.more e held.1))

-- at the end a card's entries followed by those owed to it are the expected ones up to the unit's mark, where what is carried of a
-- card gives the stated rule, and the further entries rise and are later than the words at the start
pub agrees : (r : Recording) (c : Card) (Keeps : ℕ → List Entry → Held → Type 0) → ((next : ℕ) (all : List Entry) (held : Held) → Keeps next all held → KeepsFrom (card_image r c) (hands_done r c) next all held) →
    AreDays 0 (card_days (own_sizes (card_image r c)) (card_image r c)) → (s : Standing) (u x : List ℕ) → Rise ((brought r c).owed ++ card_history c (up_to (unit_seen r u).last (history_of r))) →
    All (λ e. (brought r c).word < e.minute) ((brought r c).owed ++ card_history c (up_to (unit_seen r u).last (history_of r))) → Meets c (brought r c) Keeps (history_of r) s (unit_seen r u) (own_view x) →
    KeepsOf (card_image r c) (hands_done r c) ((brought r c).entries ++ ((brought r c).owed ++ card_history c (up_to (unit_seen r u).last (history_of r)))) (record (own_view x).held { entries = (own_view x).held.entries ++ owed c (unit_seen r u) (own_view x) })
agrees r c Keeps gives are s u x rise late m =
    agree c (brought r c) Keeps (KeepsOf (card_image r c) (hands_done r c))
    (λ next mark more due held low had above after rises kept. owed-entries_count (card_image r c) (hands_done r c) (brought r c) are refl refl refl next mark more due held low had above after rises (gives (next_of next due) ((brought r c).entries ++ more) held kept))
    (history_of r) s (unit_seen r u) (own_view x) rise late m

-- a card that was not written stays as it was, all bytes of it
pub untouched : (since : ℕ) (card : State) (start : List ℕ) → IsFresh since start (seen (λ (x : List ℕ). x) card) → (x : List ℕ) → card.left_since since x → x ≡ start
untouched since card start fresh x left = fresh x (x, left, refl)
