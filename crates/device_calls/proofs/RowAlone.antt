-- A card's row is begun: its own rule, whatever row is spared.
use Rattle.std.proofs.Common.{◌≡◌, ◌⊎◌, inl, inr, ℕ, ◌/◌, ◌<◌, ◌≤◌, Bool, false, true, Option, Some, IfSome, List, [], refl, ap, subst, ◌∙◌, sym, arith}
use Rattle.activity_codec.specs.declared.entries.Entry.{Entry}
use Rattle.trace_model.specs.declared.Card.{Card}
use Rattle.trace_model.specs.declared.Card.TheVariants.{A, B}
use Rattle.tach_media.specs.Medium.{State, IsCoherent, LeavesOnly}
use Rattle.tach_media.proofs.Runs.{at_image}
use Rattle.card_session.specs.gated_ring.Ring.{PointsInside}
use Rattle.unit_minutes.specs.unit_model.Image.{day_ring}
use Rattle.unit_minutes.specs.unit_owed.Owed.{rows_in}
use Rattle.unit_minutes.specs.unit_owed.Rows.{IsRowBeginning, IsRowBegun}
use Rattle.unit_minutes.proofs.unit_owed.Laws.{begun_view}
use Rattle.unit_minutes.proofs.unit_owed.Taking.{begun_is}
use Rattle.unit_minutes.specs.declared.notes.Notes.{Notes}
use Rattle.unit_minutes.specs.Image.{Agrees}
use Rattle.unit_rule.specs.log_model.declared.lines.Mark.{Mark}
use Rattle.unit_rule.specs.history_model.Book.{Book}
use Rattle.unit_rule.proofs.history_model.Books.{mark-earlier}
use Rattle.unit_rule.specs.device_rule.Views.{UnitView, unit_view, row, with_row, other}
use Rattle.unit_rule.specs.device_rule.Device.{Seen, LeavesViews, EndsWith}
use Rattle.unit_rule.specs.device_rule.Steps.{IsBeginning, IsBegun}
use Rattle.unit_rule.specs.device_rule.Rules.{Standing, Out, In, Torn, MeetsStanding, CardDark, CardRule, IsEntered}
use Rattle.unit_rule.proofs.device_rule.CardLaws.{dark-beside, rule-beside}
use Rattle.unit_rule.proofs.device_rule.EnterLaws.{begin-dark, begin-card}
use Rattle.unit_rule.proofs.Beginning.{last_same, recorded_same}
use Rattle.unit_rule.specs.Rule.{Started}
use Rattle.unit_rule.specs.Marks.{UnitFollowsBook}
use Rattle.unit_rule.proofs.Moves.{ended}
use Rattle.device_calls.specs.Rule.{Both, opened, number_of, unit_seen, card_seen, AnyString, CardHolds, CardRests, IsRowTaken}
use Rattle.device_calls.proofs.MinuteKept.{any-later}

-- what a unit shows of one card
abbrev only : Card → UnitView → UnitView
only c u = with_row (other c) (record { session = 0; cells = [] }) u

only_row : (c : Card) (u : UnitView) → row c (only c u) ≡ row c u
only_row A u = refl
only_row B u = refl

only_last : (c : Card) (u : UnitView) → (only c u).last ≡ u.last
only_last A u = refl
only_last B u = refl

-- a unit by what its images show now, and by that of one card alone
abbrev nowadays : Seen UnitView → Seen UnitView
nowadays s = record { may_leave = s.may_leave; left_since = λ t u. ⊥; clock = s.clock; works = s.works }

abbrev alone : Card → Seen UnitView → Seen UnitView
alone c s = record { may_leave = λ v. (u : UnitView) × s.may_leave u × (only c u ≡ v); left_since = λ t u. ⊥; clock = s.clock; works = s.works }

-- from the one to the other
abbrev Drops : Card → UnitView → UnitView → Type 0
Drops c u v = only c u ≡ v

abbrev Takes : Card → UnitView → UnitView → Type 0
Takes c u v = only c v ≡ u

of_dropped : (c : Card) (u v : UnitView) → Drops c u v → (v.last ≡ u.last) × (row c v ≡ row c u)
of_dropped c u v is = (ap (λ (w : UnitView). w.last) (sym is) ∙ only_last c u, ap (row c) (sym is) ∙ only_row c u)

of_taken : (c : Card) (u v : UnitView) → Takes c u v → (v.last ≡ u.last) × (row c v ≡ row c u)
of_taken c u v is = (sym (only_last c v) ∙ ap (λ (w : UnitView). w.last) is, sym (only_row c v) ∙ ap (row c) is)

module _ (r : Both) (c : Card) (b : Book) where
  -- a card's rule asks what the unit shows now
  module _ (U X : State) (z : Standing) where
    rests-now : CardRests r c b z U X → CardDark c (opened r c).start AnyString (opened r c).began b z (nowadays (unit_seen r U)) (card_seen X)
    rests-now rests = record { meets = rests.meets; later = rests.later; since = rests.since }

    now-rests : CardDark c (opened r c).start AnyString (opened r c).began b z (nowadays (unit_seen r U)) (card_seen X) → CardRests r c b z U X
    now-rests rests = record { meets = rests.meets; later = rests.later; since = rests.since }

  stands-now : (U X : State) (z : Standing) (d : List Entry) → MeetsStanding c (opened r c).start (opened r c).began z d (unit_seen r U) (card_seen X) → MeetsStanding c (opened r c).start (opened r c).began z d (nowadays (unit_seen r U)) (card_seen X)
  stands-now U X Out d so = tt
  stands-now U X (In session newest) d so = so
  stands-now U X (Torn session newest floor) d so = so

  now-stands : (U X : State) (z : Standing) (d : List Entry) → MeetsStanding c (opened r c).start (opened r c).began z d (nowadays (unit_seen r U)) (card_seen X) → MeetsStanding c (opened r c).start (opened r c).began z d (unit_seen r U) (card_seen X)
  now-stands U X Out d so = tt
  now-stands U X (In session newest) d so = so
  now-stands U X (Torn session newest floor) d so = so

  module _ (U X : State) where
    dropped : LeavesViews (nowadays (unit_seen r U)) (alone c (unit_seen r U)) (Drops c)
    dropped = record { later = omega arith; since = λ t w le never. absurd never; now = λ w on. inr (on.0, on.1, on.2) }

    taken : LeavesViews (alone c (unit_seen r U)) (nowadays (unit_seen r U)) (Takes c)
    taken = record { later = omega arith; since = λ t w le never. absurd never; now = λ w on. inr (only c w, (w, on, refl), refl) }

    abbrev RuleAlone : (z : Standing) (m d : List Entry) → Type 0
    RuleAlone z m d = CardRule c (opened r c).start AnyString (opened r c).began b z m d (alone c (unit_seen r U)) (card_seen X)

    abbrev RestsAlone : Standing → Type 0
    RestsAlone z = CardDark c (opened r c).start AnyString (opened r c).began b z (alone c (unit_seen r U)) (card_seen X)

    holds-alone : (z : Standing) (m d : List Entry) → CardHolds r c b z m d U X → RuleAlone z m d
    holds-alone z m d rule =
        rule-beside c (opened r c).start AnyString {U = nowadays (unit_seen r U)} {V = alone c (unit_seen r U)} {X = card_seen X} (Drops c) (opened r c).began b z m d dropped (of_dropped c)
        (record { dark = rests-now U X z rule.dark; cells = rule.cells; stands = stands-now U X z d rule.stands })

    alone-rests : (z : Standing) → RestsAlone z → CardRests r c b z U X
    alone-rests z rests = now-rests U X z (dark-beside c (opened r c).start AnyString {U = alone c (unit_seen r U)} {V = nowadays (unit_seen r U)} {X = card_seen X} (Takes c) (opened r c).began b z taken (of_taken c) rests)

    alone-holds : (z : Standing) (m d : List Entry) → RuleAlone z m d → CardHolds r c b z m d U X
    alone-holds z m d rule =
        let now = rule-beside c (opened r c).start AnyString {U = alone c (unit_seen r U)} {V = nowadays (unit_seen r U)} {X = card_seen X} (Takes c) (opened r c).began b z m d taken (of_taken c) rule in
        record { dark = now-rests U X z now.dark; cells = now.cells; stands = now-stands U X z d now.stands }

-- ---- the row of one card is begun

module _ (session : ℕ) (spared : Option (List ℕ)) (x d : List ℕ) (known : PointsInside day_ring x) where
  beginning : (c : Card) (a b number : List ℕ) → IsRowBeginning number session spared x d → IsBeginning c (only c (unit_view a b x)) (only c (unit_view a b d))
  unfolding unit_view
  beginning A a b number is = record { days = recorded_same x d is.outside known; last = last_same x d is.outside; other = refl }
  beginning B a b number is = record { days = recorded_same x d is.outside known; last = last_same x d is.outside; other = refl }

  begun_a : (a b : List ℕ) → IsRowBegun a session spared x d → IsBegun A session (only A (unit_view a b x)) (only A (unit_view a b d))
  unfolding unit_view
  begun_a a b is = let some = begun_is a spared (rows_in x) in record { beginning = beginning A a b a is.beginning; taken = begun_view a session spared x d is some.0 some.1.0 }

  begun_b : (a b : List ℕ) → IsRowBegun b session spared x d → IsBegun B session (only B (unit_view a b x)) (only B (unit_view a b d))
  unfolding unit_view
  begun_b a b is = let some = begun_is b spared (rows_in x) in record { beginning = beginning B a b b is.beginning; taken = begun_view b session spared x d is some.0 some.1.0 }

module _ (r : Both) (c : Card) (number : List ℕ) (named : number ≡ number_of r c) (spared : Option (List ℕ)) (session : ℕ) {U V : State} (whole : IsCoherent U) (j : Notes) (agrees : IfSome U.image (Agrees j)) (run : LeavesOnly U V (IsRowBeginning number session spared)) where
  known_ : (x : List ℕ) → U.image ≡ Some x → PointsInside day_ring x
  known_ x told = (at_image (Agrees j) told agrees).pointer

  abbrev shown : List ℕ → UnitView
  shown x = unit_view (number_of r A) (number_of r B) x

  begins : LeavesViews (alone c (unit_seen r U)) (alone c (unit_seen r V)) (IsBeginning c)
  begins = record {
    later = run.later;
    since = λ t w le never. absurd never;
    now = λ w on. by w on (run.now on.1.0 on.1.1);
  }
    where
      by : (w : UnitView) → (on : (u : UnitView) × (unit_seen r V).may_leave u × (only c u ≡ w)) → U.may_leave on.1.0 ⊎ ((x : List ℕ) × (U.image ≡ Some x) × IsRowBeginning number session spared x on.1.0)
          → (alone c (unit_seen r U)).may_leave w ⊎ ((v : UnitView) × (alone c (unit_seen r U)).may_leave v × IsBeginning c v w)
      by w on (inl was) = inl (on.0, (on.1.0, was, on.1.2), on.2)
      by w on (inr here) = inr (
        only c (shown here.0),
        (shown here.0, (here.0, whole.is_left here.0 here.1, refl), refl),
        subst (IsBeginning c (only c (shown here.0))) (ap (only c) on.1.2 ∙ on.2) (beginning session spared here.0 on.1.0 (known_ here.0 here.1) c (number_of r A) (number_of r B) number here.2),
      )

  begun : (c' : Card) (x d : List ℕ) → U.image ≡ Some x → IsRowBegun (number_of r c') session spared x d → IsBegun c' session (only c' (shown x)) (only c' (shown d))
  begun A x d told k = begun_a session spared x d (known_ x told) (number_of r A) (number_of r B) k
  begun B x d told k = begun_b session spared x d (known_ x told) (number_of r A) (number_of r B) k

  pub ends-alone : IsCoherent V → V.works ≡ true → IfSome U.image (λ x. IfSome V.image (IsRowBegun number session spared x)) → U.works ≡ true → EndsWith (alone c (unit_seen r U)) (alone c (unit_seen r V)) (IsBegun c session)
  ends-alone after works said before = record {
    works = works;
    now = λ w on.
        let was = ended (IsRowBegun number session spared) whole after works run said on.1.0 on.1.1 in
        let told : U.image ≡ Some was.0 = whole.only was.0 before was.1 in (
          only c (shown was.0),
          (shown was.0, (was.0, was.1, refl), refl),
          subst (IsBegun c session (only c (shown was.0))) (ap (only c) on.1.2 ∙ on.2) (begun c was.0 on.1.0 told (subst (λ (n : List ℕ). IsRowBegun n session spared was.0 on.1.0) named was.2)),
        );
  }

  -- the card's own rule
  pub taken-alone : (X : State) (s : Started) (due : ℕ) (b : Book) (marks : List Mark) → UnitFollowsBook s due b marks U → due ≤ session / 60 → 0 < session → (newest : ℕ) → CardHolds r c b Out [] [] U X → IsEntered (opened r c).start (opened r c).began session newest (card_seen X) → (failed : Bool)
      → (failed ≡ false → EndsWith (alone c (unit_seen r U)) (alone c (unit_seen r V)) (IsBegun c session)) → IsRowTaken r c b session newest failed V X
  taken-alone X s due b marks h late positive newest rule entered failed ends_ = record {
    lit = λ well. alone-holds r c b V X (In session newest) [] []
        (begin-card c (opened r c).start AnyString (opened r c).began b {U = alone c (unit_seen r U)} {V = alone c (unit_seen r V)} {X = card_seen X} session newest early entered begins any-later (ends_ well) positive (holds-alone r c b U X Out [] [] rule));
    dark = alone-rests r c b V X Out (begin-dark c (opened r c).start AnyString (opened r c).began b {U = alone c (unit_seen r U)} {V = alone c (unit_seen r V)} {X = card_seen X} session newest early entered begins (holds-alone r c b U X Out [] [] rule).dark);
  }
    where
      early : (w : UnitView) → (alone c (unit_seen r U)).may_leave w → w.last < session / 60
      early w on =
          let held = h.unit_holds (number_of r A) (number_of r B) in
          let last : w.last ≡ on.0.last = ap (λ (v : UnitView). v.last) (sym on.2) ∙ only_last c on.0 in
          omega (arith, late, last, mark-earlier s.first due b on.0.last held.order (held.now on.0 on.1).mark)
