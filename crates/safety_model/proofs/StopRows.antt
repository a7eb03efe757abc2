-- Worked rows of entries by hand and why they are stopped: where a blank card was put in and no minute is kept yet, no line
-- tells another newest minute than 0 (profile).
use Rattle.std.proofs.Common.{◌≡◌, ℕ, ◌/◌, ◌≤◌, Bool, true, false, cond, Option, Some, None, List, [], ◌∷◌, refl, sym, ◌∙◌, arith}
use Rattle.std.specs.Prelude.{◌&&◌, nat_lt, nat_le, option_map}
use Rattle.device_rule.specs.activity_codec.declared.values.Slot.TheVariants.{Driver}
use Rattle.device_rule.specs.activity_codec.declared.values.Pick.TheVariants.{Work}
use Rattle.device_rule.specs.trace_model.declared.Card.TheVariants.{A}
use Rattle.device_rule.specs.log_model.declared.lines.Mark.{Mark}
use Rattle.device_rule.specs.log_model.declared.lines.Refused.{Refused}
use Rattle.device_rule.specs.log_model.declared.lines.SlotFault.TheVariants.{NotFree, Full}
use Rattle.device_rule.specs.log_model.ByHand.{Asked, stopped_by}
use Rattle.card_string.specs.hand_model.Holding.{last_minute}
use Rattle.device_rule.specs.history_model.Minutes.{card_history}
use Rattle.device_rule.specs.history_model.Presence.{CardStart, Start, newest_minute}
use Rattle.safety_model.specs.Hands.{Session}
use Rattle.safety_model.specs.ByHand.{IsStoppedBy}

-- a card that brings nothing, in either slot
abbrev nothing : CardStart
nothing = record { entries = []; owed = []; mark = 0; word = 0 }

abbrev blank : Start
blank = record { card_a = nothing; card_b = nothing }

-- where nothing is kept it has no newest minute
none-newest : (second : ℕ) → newest_minute blank [] A second ≡ 0
unfolding newest_minute card_history
none-newest second = refl

-- the newest minute of an acceptance is no later
abbrev May : (second newest : ℕ) → Type 0
May second newest = newest ≤ newest_minute blank [] A second

-- of what is not free a line tells both minutes
free-told : (can full : Bool) (newest inserted held n i : ℕ) → cond can (cond full (Some (Full held)) None) (Some (NotFree newest inserted)) ≡ Some (NotFree n i) → newest ≡ n
free-told true true newest inserted held n i is = absurd (cc)
free-told true false newest inserted held n i is = absurd (cc)
free-told false full newest inserted held n i is = cc

-- ITS NEWEST MINUTE IS 0 in each line that tells of one that was asked, before one was done
pub blank-told : (all : List Session) (marks : List Mark) (lines : List Refused) (a : Asked) → (h : IsStoppedBy May all [] marks lines a) → (n i : ℕ) → h.why ≡ Some (NotFree n i) → n ≡ 0
blank-told all marks lines a h n i is = by h.first (sym h.is ∙ is)
  where
    low : h.newest ≤ 0
    low = let none = none-newest h.session.second in let most = h.most in omega (arith, most, none)

    by : (first : Option Mark) → stopped_by (option_map (λ (m : Mark). m.minute) first) (last_minute h.newest []) (h.session.second / 60) 0 a.minute ≡ Some (NotFree n i) → n ≡ 0
    by None told =
        let same = free-told (nat_lt (last_minute h.newest []) a.minute && nat_lt a.minute (h.session.second / 60)) (nat_le 8 0) (last_minute h.newest []) (h.session.second / 60) 0 n i told in
        let le = low in
        omega (arith, same, le)
    by (Some m) told = absurd (cc)

-- ---- THE CARD IS PUT IN at 06:00 of 1 March 2010, the minute 21123720, and work is entered from 05:00

abbrev put_in : Session
put_in = record { second = 1267423200; begun = 1; brought = 0 }

abbrev ask : Asked
ask = record {
  second = 1267423260;
  begun = 1;
  slot = Driver;
  sitting = record { card = A; accepted = Some 1267423200 };
  pick = Work;
  minute = 21123660;
}

-- it is done
pub is-done : IsStoppedBy May (put_in ∷ []) [] [] [] ask
is-done = record {
  why = None;
  told = λ l at second begun. absurd (omega (arith, at.1));
  session = put_in;
  next = None;
  one = record { earlier = []; later = []; are = refl; next_is = refl };
  within = refl;
  newest = 0;
  answers = λ m at lt. absurd (omega (arith, at.1));
  most = omega arith;
  first = None;
  kept = λ m f. absurd (let at = f.mark in omega (arith, at.1));
  is = refl;
}

-- and no line may tell that it is not free, as of a card whose newest minute is the last one before
pub is-free : (lines : List Refused) → (h : IsStoppedBy May (put_in ∷ []) [] [] lines ask) → h.why ≡ Some (NotFree 21123719 21123720) → ⊥
is-free lines h is = let none = blank-told (put_in ∷ []) [] lines ask h 21123719 21123720 is in absurd (omega (arith, none))
