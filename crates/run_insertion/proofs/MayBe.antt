-- Events that may have been noted on a card, each for itself.
use Rattle.std.proofs.Common.{◌≡◌, inl, inr, ℕ, List, [], ◌∷◌, ◌++◌, refl, subst}
use Rattle.run_events.specs.card_files.declared.card_event.CardEvent.{CardEvent}
use Rattle.run_insertion.specs.CardEvents.{with_event, all_noted, AreBeingNoted, MayBeNoted}

-- nothing has come of them
pub none-may : (table : List (List ℕ)) (es : List CardEvent) (new : List (List ℕ)) → new ≡ table → MayBeNoted table es new
none-may table [] new same = same
none-may table (e ∷ es) new same = (table, inr (inl refl), none-may table es new same)

-- all were noted
pub all-may : (table : List (List ℕ)) (es : List CardEvent) → MayBeNoted table es (all_noted table es)
all-may table [] = refl
all-may table (e ∷ es) = (with_event table e, inl refl, all-may (with_event table e) es)

-- a moment of that
pub being-may : (table : List (List ℕ)) (es : List CardEvent) (new : List (List ℕ)) → AreBeingNoted table es new → MayBeNoted table es new
being-may table [] new is = is
being-may table (e ∷ es) new (inl same) = none-may table (e ∷ es) new same
being-may table (e ∷ es) new (inr (inl empty)) = (new, inr (inr empty), none-may new es new refl)
being-may table (e ∷ es) new (inr (inr rest)) = (with_event table e, inl refl, being-may (with_event table e) es new rest)

-- some, and then others
pub may-both : (table : List (List ℕ)) (es fs : List CardEvent) (mid new : List (List ℕ)) → MayBeNoted table es mid → MayBeNoted mid fs new → MayBeNoted table (es ++ fs) new
may-both table [] fs mid new first next = subst (λ (t : List (List ℕ)). MayBeNoted t fs new) first next
may-both table (e ∷ es) fs mid new first next = (first.0, first.1, may-both first.0 es fs mid new first.2 next)
