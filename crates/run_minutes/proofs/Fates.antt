-- What becomes of an entry: each of the three.
use Rattle.std.proofs.Common.{◌≡◌, ℕ, Bool, true, false, [], ◌∷◌, Option, Some, None, IfSome, refl, ap, sym, subst}
use Rattle.std.proofs.lemmas.List.{append-nil}
use Rattle.trace_model.specs.declared.Card.{Card}
use Rattle.tach_media.specs.Medium.{State, HasCause}
use Rattle.tach_media.proofs.Runs.{where_told}
use Rattle.card_session.specs.declared.session.Kept.{Kept}
use Rattle.log_model.specs.declared.lines.Break.{Break}
use Rattle.log_model.specs.declared.lines.Mark.{Mark}
use Rattle.log_model.specs.Causes.{device_of}
use Rattle.run_crew.specs.declared.cards.Accepted.{Accepted}
use Rattle.run_crew.specs.Cards.{session_of}
use Rattle.run_crew.specs.Cabin.{crew_of, with_session_of, torn_out}
use Rattle.run_outcome.specs.Lines.{Listed}
use Rattle.run_minutes.specs.declared.keeper.Keeper.{Keeper}
use Rattle.run_minutes.specs.declared.keeper.Moment.{Moment}
use Rattle.run_minutes.specs.Keeping.{Still, Has, Fell, IsBrought, IsFateOf, IsFaultNoted, GoesOnWith, with_lines, tear_of, fault_of}
use Rattle.unit_notes.specs.Noting.{IsEventNoted}
use Rattle.unit_notes.specs.event_model.declared.kinds.TheConstants.{CARD_FAULT}

-- no more lines
pub no-lines : {T : Type 0} (l : Listed T) → l ≡ with_lines [] l
no-lines l = ap (λ items. record { items = items; room = l.room }) (sym (append-nil l.items))

-- no card was present
pub nobody-brought : (kept : Kept) (at : Moment) (k : Keeper) (marks : Listed Mark) (breaks : Listed Break) (U X : State) → IsBrought None kept at false k k marks marks breaks breaks Still U U X X
nobody-brought kept at k marks breaks U X = record {
  is = tt;
  on_card = tt;
  keeper = refl;
  marked = no-lines marks;
  told = no-lines breaks;
  only = λ bad. absurd (cc);
  noted = λ well. where_told U.image U.image (IsFaultNoted Still at.second (crew_of k.cabin)) (λ x y is here. tt);
}

module _ (which : Card) (kept : Kept) (at : Moment) (k v : Keeper) (marks : Listed Mark) (breaks : Listed Break) (U V X Y : State) where
  -- the card has the entry
  pub has-brought : (before after : Accepted) (clock : ℕ) (marks_after : Listed Mark) → session_of k.cabin.cards which ≡ Some before → GoesOnWith before after kept → clock ≡ Y.clock → HasCause X Y false
      → v ≡ record k { cabin = with_session_of which (Some after) k.cabin } → marks_after ≡ with_lines (record { device = device_of which; minute = kept.entry.minute; clock = clock } ∷ []) marks
      → IsBrought (Some which) kept at false k v marks marks_after breaks breaks (Has after clock) U V X Y
  has-brought before after clock marks_after some goes at_clock cause keeper marked = record {
    is = subst (λ (o : Option Accepted). IsFateOf o kept (Has after clock)) (sym some) goes;
    on_card = (at_clock, cause);
    keeper = keeper;
    marked = marked;
    told = no-lines breaks;
    only = λ bad. absurd (cc);
    noted = λ well. where_told U.image V.image (IsFaultNoted (Has after clock) at.second (crew_of v.cabin)) (λ x y is here. tt);
  }

  -- the call failed
  pub fell-brought : (failed : Bool) (before : Accepted) (breaks_after : Listed Break) → session_of k.cabin.cards which ≡ Some before → HasCause X Y true
      → v ≡ record k { cabin = torn_out which at.second k.cabin } → breaks_after ≡ with_lines (tear_of kept.entry.slot at ∷ []) breaks
      → (failed ≡ false → IfSome U.image (λ x. IfSome V.image (IsEventNoted CARD_FAULT (fault_of at.second (crew_of v.cabin)) x)))
      → IsBrought (Some which) kept at failed k v marks marks breaks breaks_after Fell U V X Y
  fell-brought failed before breaks_after some cause keeper told noted = record {
    is = subst (λ (o : Option Accepted). IsFateOf o kept Fell) (sym some) tt;
    on_card = cause;
    keeper = keeper;
    marked = no-lines marks;
    told = told;
    only = λ bad. refl;
    noted = noted;
  }

  -- it has no session
  pub still-brought : session_of k.cabin.cards which ≡ None → v ≡ k → IsBrought (Some which) kept at false k v marks marks breaks breaks Still U V X Y
  still-brought gone same = record {
    is = subst (λ (o : Option Accepted). IsFateOf o kept Still) (sym gone) tt;
    on_card = tt;
    keeper = same;
    marked = no-lines marks;
    told = no-lines breaks;
    only = λ bad. absurd (cc);
    noted = λ well. where_told U.image V.image (IsFaultNoted Still at.second (crew_of v.cabin)) (λ x y is here. tt);
  }
