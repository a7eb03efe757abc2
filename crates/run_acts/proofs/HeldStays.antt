-- The stays of both cards as a session takes an entry by hand.
use Rattle.std.proofs.Common.{◌∙◌, inl, ℕ, Bool, Option, Some, None, IfSome, List, [], refl, sym}
use Rattle.std.specs.Prelude.{option_map}
use Rattle.activity_codec.specs.declared.entries.Manual.{Manual}
use Rattle.trace_model.specs.declared.Card.{Card}
use Rattle.trace_model.specs.declared.Card.TheVariants.{A, B}
use Rattle.tach_media.specs.Medium.{State}
use Rattle.tacho_types.specs.declared.texts.Registration.{Registration}
use Rattle.log_model.specs.Log.{RunLog}
use Rattle.log_model.specs.declared.lines.Find.{Find}
use Rattle.unit_notes.specs.note_model.Noted.{Note}
use Rattle.hand_model.specs.card_image.Own.{own_sizes}
use Rattle.device_calls.specs.safety_model.Safe.{Devices}
use Rattle.run_crew.specs.declared.cards.Accepted.{Accepted}
use Rattle.run_crew.specs.declared.cabin.Cabin.{Cabin}
use Rattle.run_crew.specs.Cards.{session_of}
use Rattle.run_minutes.specs.run_promise.Found.{CardFound, found_of}
use Rattle.run_minutes.specs.run_promise.Origin.{Origin}
use Rattle.run_minutes.specs.Keeping.{session_at}
use Rattle.run_acts.specs.ByHand.{holding, cabin_holding}
use Rattle.run_acts.specs.Closings.{Spell, spells_of}
use Rattle.run_acts.specs.Comings.{TellMore}
use Rattle.run_acts.specs.Truths.{Truths}
use Rattle.run_acts.specs.Stays.{Stay, Whose, owed_by, AllStay, sits_in, start_shown}
use Rattle.run_acts.proofs.Comings.{tells-none}
use Rattle.run_acts.proofs.ByHand.{IsTaken, some-session}
use Rattle.run_acts.proofs.Stays.{on_last, with_hand, on-last-none, on-last-comings, on-last-judged, on-last-verdicts, on-last-true, on-last-owes, stays-enter}
use Rattle.run_acts.proofs.AllStay.{Turns, turns-so, placed-same, all-one}

-- a unit that is not called
still : (U : State) → TellMore [] U U
still U = λ y left. (y, left, λ points. tells-none y points)

module _ (whose : Whose) (t : Truths) (c : Card) (u : ℕ) (f : CardFound) (log : RunLog) (r : Registration) (noted : List Spell) (sits : Bool) (e : Manual) where
  -- of one card: its last stay has one more
  hand-turns : (s : Option Accepted) (U X : State) (ss : List Stay) (since : List Find) → IfSome s (λ a. IsTaken a e.minute) → Turns whose t c u f log log r noted noted sits sits s (option_map (holding e) s) U U X X ss since
  hand-turns None U X ss since taken =
      turns-so whose t c u f log r noted sits None None U U X X (λ (l : List Stay). l) (λ l none. none) (λ l. refl) (still U) (λ l fs. refl) (λ l fs waits h. h) (λ valid some. some) ss since (λ valid h. h) (λ only shown all. all)
  hand-turns (Some a) U X ss since taken =
      turns-so whose t c u f log r noted sits (Some a) (Some (holding e a)) U U X X (on_last (with_hand e)) (λ l none. on-last-none (with_hand e) l none) (λ l. on-last-comings r f.image (with_hand e) (λ x. refl) l) (still U)
      (λ l fs. on-last-judged (with_hand e) (λ x. refl) (λ x. refl) l fs)
      (λ l fs waits h. on-last-verdicts (with_hand e) (λ p x is. is) r (own_sizes f.image).activity l fs (start_shown f.image) (waits refl) h) (λ valid some. refl) ss since
      (λ valid h. stays-enter u f r noted sits ss e a X taken.free h)
      (λ only shown all. (on-last-true t (with_hand e) ss (λ x front are is. is) all.0, on-last-owes (owed_by whose t c) (with_hand e) (λ x. refl) (λ x. refl) r (own_sizes f.image).activity ss (start_shown f.image) all.1))

-- SO THE STAYS OF BOTH GO ON: nothing that is noted or told changes
pub all-holding : (o : Origin) (t : Truths) (u : ℕ) (log : RunLog) (notes : List Note) (r : Registration) (cabin : Cabin) (card : Option Card) (e : Manual) (d : Devices) → IfSome (session_at cabin.cards card) (λ a. IsTaken a e.minute)
    → AllStay o t u log notes r cabin d → AllStay o t u log notes r (cabin_holding e card cabin) d
all-holding o t u log notes r cabin None e d taken all = all
all-holding o t u log notes r cabin (Some A) e d taken all =
    all-one o t u A log log notes notes r cabin (cabin_holding e (Some A) cabin) d.unit d.unit d.card_a d.card_a d.card_b (λ whose known. known) refl refl (λ slot there. there) (λ whose known in_. refl)
    (λ whose known in_ was. placed-same notes notes cabin (cabin_holding e (Some A) cabin) A refl (λ slot there. there) (λ some. sym (some-session e A A cabin.cards) ∙ some) was)
    (λ whose known in_ h. hand-turns whose t A u (found_of o.found A) log r (spells_of A notes) (sits_in cabin.slots.seats A) e (session_of cabin.cards A) d.unit d.card_a (h.stays A) (h.since A) taken) (λ whose known out. inl refl) all
all-holding o t u log notes r cabin (Some B) e d taken all =
    all-one o t u B log log notes notes r cabin (cabin_holding e (Some B) cabin) d.unit d.unit d.card_b d.card_b d.card_a (λ whose known. known) refl refl (λ slot there. there) (λ whose known in_. refl)
    (λ whose known in_ was. placed-same notes notes cabin (cabin_holding e (Some B) cabin) B refl (λ slot there. there) (λ some. sym (some-session e B B cabin.cards) ∙ some) was)
    (λ whose known in_ h. hand-turns whose t B u (found_of o.found B) log r (spells_of B notes) (sits_in cabin.slots.seats B) e (session_of cabin.cards B) d.unit d.card_b (h.stays B) (h.since B) taken) (λ whose known out. inl refl) all
