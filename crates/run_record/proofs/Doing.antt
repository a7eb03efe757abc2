-- What an entry by hand more adds to those that were done for a card: itself, or nothing.
use Rattle.std.proofs.Common.{◌≡◌, Bool, true, false, cond, not, ◌||◌, List, [], ◌∷◌, ◌++◌, All, filter, refl, ap, ◌∙◌, append-nil}
use Rattle.std.specs.Prelude.{◌&&◌, nat_eq}
use Rattle.std.proofs.lemmas.List.Elements.{All-weaker, All-filter, filter-append}
use Rattle.std.proofs.lemmas.List.Folds.{list_any-append}
use Rattle.run_devices.specs.trace_model.declared.Card.{Card}
use Rattle.run_devices.specs.log_model.declared.lines.Refused.{Refused}
use Rattle.run_devices.specs.log_model.Slots.{same_card}
use Rattle.run_devices.specs.log_model.ByHand.{Asked, is_stop, is_stopped, stops as stops_of}
use Rattle.run_devices.proofs.history_model.Filters.{filter-alike}
use Rattle.run_record.specs.Handed.{done_for}

-- a line is at the place of one that was asked
abbrev pub is_at : Refused → Asked → Bool
is_at l a = nat_eq l.second a.second && nat_eq l.begun a.begun

pub filter-one : {X : Type 0} (p : X → Bool) (x : X) → p x ≡ true → filter p (x ∷ []) ≡ x ∷ []
filter-one {X} p x is = ap (λ (b : Bool). cond b (x ∷ []) []) is

pub filter-drops : {X : Type 0} (p : X → Bool) (x : X) → p x ≡ false → filter p (x ∷ []) ≡ []
filter-drops {X} p x is = ap (λ (b : Bool). cond b (x ∷ []) []) is

module _ (c : Card) (stops : List Refused) (asked : List Asked) (a : Asked) where
  -- IT IS ASKED OF ANOTHER CARD
  pub done-other : same_card c a.sitting.card ≡ false → done_for c stops (asked ++ a ∷ []) ≡ done_for c stops asked
  done-other other =
      ap (filter (λ (b : Asked). not (is_stopped (stops_of stops) b)))
      (filter-append (λ (b : Asked). same_card c b.sitting.card) asked (a ∷ [])
      ∙ ap (λ (l : List Asked). filter (λ (b : Asked). same_card c b.sitting.card) asked ++ l) (filter-drops (λ (b : Asked). same_card c b.sitting.card) a other) ∙ append-nil (filter (λ (b : Asked). same_card c b.sitting.card) asked))

  module _ (same : same_card c a.sitting.card ≡ true) where
    -- those of the card, with it
    with-it : filter (λ (b : Asked). same_card c b.sitting.card) (asked ++ a ∷ []) ≡ filter (λ (b : Asked). same_card c b.sitting.card) asked ++ a ∷ []
    with-it =
        filter-append (λ (b : Asked). same_card c b.sitting.card) asked (a ∷ [])
        ∙ ap (λ (l : List Asked). filter (λ (b : Asked). same_card c b.sitting.card) asked ++ l) (filter-one (λ (b : Asked). same_card c b.sitting.card) a same)

    -- IT IS DONE, as no line stops it
    pub done-one : is_stopped (stops_of stops) a ≡ false → done_for c stops (asked ++ a ∷ []) ≡ done_for c stops asked ++ a ∷ []
    done-one free =
        ap (filter (λ (b : Asked). not (is_stopped (stops_of stops) b))) with-it
        ∙ filter-append (λ (b : Asked). not (is_stopped (stops_of stops) b)) (filter (λ (b : Asked). same_card c b.sitting.card) asked) (a ∷ [])
        ∙ ap (λ (l : List Asked). done_for c stops asked ++ l) (filter-one (λ (b : Asked). not (is_stopped (stops_of stops) b)) a (ap not free))

  -- A LINE MORE, at its place alone
  module _ (l : Refused) (stop : is_stop l.fault ≡ true) (here : is_at l a ≡ true) (apart : All (λ (b : Asked). is_at l b ≡ false) asked) where
    more-stops : stops_of (stops ++ l ∷ []) ≡ stops_of stops ++ l ∷ []
    more-stops = filter-append (λ (r : Refused). is_stop r.fault) stops (l ∷ []) ∙ ap (λ (k : List Refused). stops_of stops ++ k) (filter-one (λ (r : Refused). is_stop r.fault) l stop)

    or-false : (b : Bool) → (b || false) ≡ b
    or-false true = refl
    or-false false = refl

    or-true : (b : Bool) → (b || true) ≡ true
    or-true true = refl
    or-true false = refl

    -- of another one it says nothing
    still : (b : Asked) → is_at l b ≡ false → is_stopped (stops_of (stops ++ l ∷ [])) b ≡ is_stopped (stops_of stops) b
    still b other =
        ap (λ (k : List Refused). is_stopped k b) more-stops
        ∙ list_any-append (λ (r : Refused). nat_eq r.second b.second && nat_eq r.begun b.begun) (stops_of stops) (l ∷ [])
        ∙ ap (λ (t : Bool). is_stopped (stops_of stops) b || (t || false)) other ∙ or-false (is_stopped (stops_of stops) b)

    stopped : is_stopped (stops_of (stops ++ l ∷ [])) a ≡ true
    stopped =
        ap (λ (k : List Refused). is_stopped k a) more-stops
        ∙ list_any-append (λ (r : Refused). nat_eq r.second a.second && nat_eq r.begun a.begun) (stops_of stops) (l ∷ [])
        ∙ ap (λ (t : Bool). is_stopped (stops_of stops) a || (t || false)) here ∙ or-true (is_stopped (stops_of stops) a)

    -- those that were done before it are done still
    before-it : done_for c (stops ++ l ∷ []) asked ≡ done_for c stops asked
    before-it =
        filter-alike (λ (b : Asked). not (is_stopped (stops_of (stops ++ l ∷ [])) b)) (λ (b : Asked). not (is_stopped (stops_of stops) b)) (filter (λ (b : Asked). same_card c b.sitting.card) asked)
        (All-filter (λ (b : Asked). same_card c b.sitting.card) (λ (b : Asked). not (is_stopped (stops_of (stops ++ l ∷ [])) b) ≡ not (is_stopped (stops_of stops) b)) asked
        (All-weaker (λ (b : Asked). is_at l b ≡ false) (λ (b : Asked). not (is_stopped (stops_of (stops ++ l ∷ [])) b) ≡ not (is_stopped (stops_of stops) b)) (λ b other. ap not (still b other)) asked apart))

    -- SO IT IS NOT DONE
    pub done-stopped : same_card c a.sitting.card ≡ true → done_for c (stops ++ l ∷ []) (asked ++ a ∷ []) ≡ done_for c stops asked
    done-stopped same =
        ap (filter (λ (b : Asked). not (is_stopped (stops_of (stops ++ l ∷ [])) b))) (with-it same)
        ∙ filter-append (λ (b : Asked). not (is_stopped (stops_of (stops ++ l ∷ [])) b)) (filter (λ (b : Asked). same_card c b.sitting.card) asked) (a ∷ [])
        ∙ ap (λ (k : List Asked). done_for c (stops ++ l ∷ []) asked ++ k) (filter-drops (λ (b : Asked). not (is_stopped (stops_of (stops ++ l ∷ [])) b)) a (ap not stopped))
        ∙ append-nil (done_for c (stops ++ l ∷ []) asked) ∙ before-it

    -- nor does the line change what was done for the other card
    pub done-beside : done_for c (stops ++ l ∷ []) asked ≡ done_for c stops asked
    done-beside = before-it
