-- What comes to the places of a type on a card: nothing, some and then more, and what is sure by one log and not by another.
use Rattle.std.proofs.Common.{◌≡◌, ◌∙◌, ℕ, suc, ◌+◌, ◌≤◌, Bool, true, false, cond, List, [], ◌∷◌, ◌++◌, length, refl, sym, ap, subst, arith, length-append}
use Rattle.std.specs.Prelude.{◌==◌, ◌&&◌, flat_map}
use Rattle.std.specs.List.{AllByRecursion}
use Rattle.std.proofs.lemmas.Grind.{flat_map-append}
use Rattle.trace_model.specs.declared.Card.{Card}
use Rattle.card_files.specs.declared.card_event.CardEvent.{CardEvent}
use Rattle.card_files.specs.declared.current_use.CurrentUse.{CurrentUse}
use Rattle.unit_notes.specs.event_model.declared.kinds.TheConstants.{INSERTION_WHILE_DRIVING, SESSION_NOT_CLOSED, POWER_INTERRUPTION}
use Rattle.unit_notes.specs.event_model.Events.{Seen, number_of}
use Rattle.log_model.specs.Log.{is_accepting}
use Rattle.log_model.specs.Slots.{same_card}
use Rattle.run_insertion.specs.CardEvents.{all_noted, MayBeNoted}
use Rattle.run_insertion.proofs.CardBrought.{noted-both}
use Rattle.run_insertion.proofs.MayBe.{none-may, all-may, may-both}
use Rattle.run_acts.specs.OnCards.{Bringing, unclosed_at, unclosed_by, unclosed_all, events_by, accepted_in, attempts_in, torn_times, IsBrought, IsUse, AreUses}
use Rattle.run_acts.proofs.OnCards.{events-append}
use Rattle.run_acts.proofs.CardCourse.{Finding}

-- ---- lists

pub all-both : {X : Type 0} (P : X → Type 0) (xs ys : List X) → AllByRecursion P xs → AllByRecursion P ys → AllByRecursion P (xs ++ ys)
all-both P [] ys h k = k
all-both P (x ∷ xs) ys h k = (h.0, all-both P xs ys h.1 k)

pub all-map : {X : Type 0} (P Q : X → Type 0) → ((x : X) → P x → Q x) → (xs : List X) → AllByRecursion P xs → AllByRecursion Q xs
all-map P Q on [] h = tt
all-map P Q on (x ∷ xs) h = (on x h.0, all-map P Q on xs h.1)

raised : (m n : ℕ) → m ≤ n → suc m ≤ suc n
raised m n le = omega (arith, le)

with-more : (m n k : ℕ) → m ≤ n → m ≤ n + k
with-more m n k le = omega (arith, le)

pub unclosed-both : (u : ℕ) (fs gs : List CurrentUse) → unclosed_all u (fs ++ gs) ≡ unclosed_all u fs ++ unclosed_all u gs
unclosed-both u fs gs = flat_map-append (λ (current : CurrentUse). unclosed_at current u) fs gs

-- ---- what comes second, behind what comes first
pub record AreBoth (first next all : Bringing) : Type 0 where
  pub second : all.second ≡ first.second
  pub same : all.second ≡ next.second
  pub attempts : first.attempts + next.attempts ≤ all.attempts
  pub gaps : all.gaps ≡ first.gaps ++ next.gaps
  pub moved : all.moved ≡ first.moved ++ next.moved
  pub unclosed : all.unclosed ≡ first.unclosed ++ next.unclosed

module _ (images : List ℕ → Type 0) where
  -- sessions that are those of no more uses, each of which an image told
  abbrev pub AreKnown : (second most : ℕ) → List CardEvent → Type 0
  AreKnown u most events = (found : List CurrentUse) × (length found ≤ most) × AllByRecursion (IsUse images) found × (events ≡ unclosed_all u found)

  -- so they are of acceptances in one second
  known-by : (u : ℕ) (us vs : List ℕ) (uses : List CurrentUse) → AllByRecursion (λ (v : ℕ). v ≡ u) us → AreUses images uses (us ++ vs) → AreKnown u (length us) (unclosed_by uses us)
  known-by u [] vs [] all are = ([], omega arith, tt, refl)
  known-by u [] vs (current ∷ uses) all are = ([], omega arith, tt, refl)
  known-by u (w ∷ us) vs [] all are = absurd are
  known-by u (w ∷ us) vs (current ∷ uses) all are =
      let rest = known-by u us vs uses all.1 are.1 in
      (current ∷ rest.0, raised (length rest.0) (length us) rest.1, (are.0, rest.2), λ i. unclosed_at current (all.0 i) ++ rest.3 i)

  pub known-of : (c : Card) (x : Seen) (vs : List ℕ) (uses : List CurrentUse) → AreUses images uses (accepted_in c x ++ vs) → AreKnown (number_of x) (attempts_in c x) (unclosed_by uses (accepted_in c x))
  known-of c x vs uses are =
      let known = known-by (number_of x) (accepted_in c x) vs uses (here x.told.course.found) are in
      (known.0, with-more (length known.0) (length (accepted_in c x)) (torn_times c x) known.1, known.2, known.3)
    where
      here : (fs : List Finding) → AllByRecursion (λ (v : ℕ). v ≡ number_of x) (flat_map (λ (f : Finding). cond (same_card f.0.card c && is_accepting f.1) (number_of x ∷ []) []) fs)
      here [] = tt
      here (f ∷ fs) = by (same_card f.0.card c && is_accepting f.1) (here fs)
        where
          by : (b : Bool) → AllByRecursion (λ (v : ℕ). v ≡ number_of x) (flat_map (λ (g : Finding). cond (same_card g.0.card c && is_accepting g.1) (number_of x ∷ []) []) fs)
              → AllByRecursion (λ (v : ℕ). v ≡ number_of x) (cond b (number_of x ∷ []) [] ++ flat_map (λ (g : Finding). cond (same_card g.0.card c && is_accepting g.1) (number_of x ∷ []) []) fs)
          by true rest = (refl, rest)
          by false rest = rest

  module _ (kind : ℕ) where
    -- where it is not sure
    pub brought-unsure : (sure : Bool) (b : Bringing) (old new : List (List ℕ)) → AreKnown b.second b.attempts b.unclosed → IsBrought images kind sure b old new → IsBrought images kind false b old new
    brought-unsure true b old new known is =
        let events : List CardEvent = events_by kind b.gaps b.moved (unclosed_all b.second known.0) in
        let whole : new ≡ all_noted old events = is ∙ ap (λ (es : List CardEvent). all_noted old (events_by kind b.gaps b.moved es)) known.3 in
        (known.0, known.1, known.2, subst (λ (t : List (List ℕ)). MayBeNoted old events t) (sym whole) (all-may old events))
    brought-unsure false b old new known is = is

    -- by a log that is sure of no more
    pub brought-less : (was now : Bool) → (now ≡ true → was ≡ true) → (b : Bringing) (old new : List (List ℕ)) → AreKnown b.second b.attempts b.unclosed → IsBrought images kind was b old new → IsBrought images kind now b old new
    brought-less was true keeps b old new known is = subst (λ (q : Bool). IsBrought images kind q b old new) (keeps refl) is
    brought-less was false keeps b old new known is = brought-unsure was b old new known is

    -- nothing comes of it
    pub brought-nothing : (sure : Bool) (b : Bringing) → (sure ≡ true → events_by kind b.gaps b.moved b.unclosed ≡ []) → (old new : List (List ℕ)) → new ≡ old → IsBrought images kind sure b old new
    brought-nothing true b none old new same = same ∙ sym (ap (all_noted old) (none refl))
    brought-nothing false b none old new same = ([], omega arith, tt, none-may old (events_by kind b.gaps b.moved (unclosed_all b.second [])) new same)

    -- another interruption may come, of which nothing came, where it is not sure
    pub brought-gap : (sure : Bool) (b : Bringing) (gaps : List CardEvent) → ((kind == POWER_INTERRUPTION) ≡ true → sure ≡ false) → b.gaps ≡ [] → (old new : List (List ℕ)) → IsBrought images kind sure b old new → IsBrought images kind sure (record b { gaps = gaps }) old new
    brought-gap sure b gaps unsure none old new is = by (kind == POWER_INTERRUPTION) refl sure unsure is
      where
        -- of another type it changes nothing
        other : (us : List CardEvent) → (kind == POWER_INTERRUPTION) ≡ false → events_by kind b.gaps b.moved us ≡ events_by kind gaps b.moved us
        other us off =
            (λ i. cond (off i) b.gaps (cond (kind == INSERTION_WHILE_DRIVING) b.moved (cond (kind == SESSION_NOT_CLOSED) us [])))
            ∙ sym (λ i. cond (off i) gaps (cond (kind == INSERTION_WHILE_DRIVING) b.moved (cond (kind == SESSION_NOT_CLOSED) us [])))

        -- of this one nothing was noted
        empty : (us : List CardEvent) → (kind == POWER_INTERRUPTION) ≡ true → events_by kind b.gaps b.moved us ≡ []
        empty us on = (λ i. cond (on i) b.gaps (cond (kind == INSERTION_WHILE_DRIVING) b.moved (cond (kind == SESSION_NOT_CLOSED) us []))) ∙ none

        by : (q : Bool) → (kind == POWER_INTERRUPTION) ≡ q → (s : Bool) → ((kind == POWER_INTERRUPTION) ≡ true → s ≡ false) → IsBrought images kind s b old new → IsBrought images kind s (record b { gaps = gaps }) old new
        by true on true un h = absurd (let clash : true ≡ false = un on in cc)
        by true on false un h = (
          h.0,
          h.1,
          h.2,
          none-may old (events_by kind gaps b.moved (unclosed_all b.second h.0)) new (subst (λ (es : List CardEvent). MayBeNoted old es new) (empty (unclosed_all b.second h.0) on) h.3),
        )
        by false off true un h = h ∙ ap (all_noted old) (other b.unclosed off)
        by false off false un h = (h.0, h.1, h.2, subst (λ (es : List CardEvent). MayBeNoted old es new) (other (unclosed_all b.second h.0) off) h.3)

    -- SOME, AND THEN MORE
    pub brought-both : (was now : Bool) → (now ≡ true → was ≡ true) → (b d e : Bringing) → AreBoth b d e → AreKnown b.second b.attempts b.unclosed → (old mid new : List (List ℕ)) → IsBrought images kind was b old mid → IsBrought images kind now d mid new → IsBrought images kind now e old new
    brought-both was true keeps b d e both known old mid new first next =
        let bs : List CardEvent = events_by kind b.gaps b.moved b.unclosed in
        let ds : List CardEvent = events_by kind d.gaps d.moved d.unclosed in
        let whole : mid ≡ all_noted old bs = subst (λ (q : Bool). IsBrought images kind q b old mid) (keeps refl) first in
        let events : events_by kind e.gaps e.moved e.unclosed ≡ bs ++ ds =
        (λ i. events_by kind (both.gaps i) (both.moved i) (both.unclosed i)) ∙ events-append kind b.gaps b.moved b.unclosed d.gaps d.moved d.unclosed in
        next ∙ ap (λ (t : List (List ℕ)). all_noted t ds) whole ∙ sym (noted-both old bs ds) ∙ ap (all_noted old) (sym events)
    brought-both was false keeps b d e both known old mid new first next =
        let one = brought-unsure was b old mid known first in
        let bs : List CardEvent = events_by kind b.gaps b.moved (unclosed_all b.second one.0) in
        let ds : List CardEvent = events_by kind d.gaps d.moved (unclosed_all d.second next.0) in
        let us : unclosed_all e.second (one.0 ++ next.0) ≡ unclosed_all b.second one.0 ++ unclosed_all d.second next.0 =
        unclosed-both e.second one.0 next.0 ∙ (λ i. unclosed_all (both.second i) one.0 ++ unclosed_all (both.same i) next.0) in
        let events : events_by kind e.gaps e.moved (unclosed_all e.second (one.0 ++ next.0)) ≡ bs ++ ds =
        (λ i. events_by kind (both.gaps i) (both.moved i) (us i)) ∙ events-append kind b.gaps b.moved (unclosed_all b.second one.0) d.gaps d.moved (unclosed_all d.second next.0) in
        let long : length (one.0 ++ next.0) ≡ length one.0 + length next.0 = length-append one.0 next.0 in
        let few_b : length one.0 ≤ b.attempts = one.1 in
        let few_d : length next.0 ≤ d.attempts = next.1 in
        let few_e : b.attempts + d.attempts ≤ e.attempts = both.attempts in (
          one.0 ++ next.0,
          omega (arith, long, few_b, few_d, few_e),
          all-both (IsUse images) one.0 next.0 one.2 next.2,
          subst (λ (es : List CardEvent). MayBeNoted old es new) (sym events) (may-both old bs ds mid new one.3 next.3),
        )

-- by images of which there are no fewer
pub use-still : (images later : List ℕ → Type 0) → ((x : List ℕ) → images x → later x) → (current : CurrentUse) → IsUse images current → IsUse later current
use-still images later on current is = (is.0, on is.0 is.1, is.2)

pub brought-still : (images later : List ℕ → Type 0) → ((x : List ℕ) → images x → later x) → (kind : ℕ) (sure : Bool) (b : Bringing) (old new : List (List ℕ)) → IsBrought images kind sure b old new → IsBrought later kind sure b old new
brought-still images later on kind true b old new is = is
brought-still images later on kind false b old new is = (is.0, is.1, all-map (IsUse images) (IsUse later) (use-still images later on) is.0 is.2, is.3)
