-- A card that is to have an entry more, which it lacks: its string is held still, and so is the rest that is carried of it.
use Rattle.std.proofs.Common.{◌≡◌, ◌∙◌, inl, inr, ⊎_elim, ℕ, suc, max, ◌<◌, ◌≤◌, List, [], ◌∷◌, ◌++◌, All, ap, subst, sym, arith, append_assoc}
use Rattle.std.proofs.lemmas.List.Elements.{All-nil, All-cons}
use Rattle.device_calls.specs.activity_codec.declared.entries.Entry.{Entry}
use Rattle.device_calls.specs.trace_model.declared.Card.{Card}
use Rattle.tach_media.specs.Medium.{State}
use Rattle.tach_media.specs.card_layout.declared.files.Application.{Application}
use Rattle.device_calls.specs.card_retention.Retains.{Rise}
use Rattle.device_calls.specs.card_image.Fields.{end_mark}
use Rattle.device_calls.specs.card_image.View.{card_view}
use Rattle.device_calls.specs.card_image.Own.{own_view, own_sizes, KeepsOf}
use Rattle.device_calls.specs.card_session.Inserting.{Follow}
use Rattle.device_calls.specs.card_session.Repairs.{first_minute}
use Rattle.device_calls.specs.hand_model.Written.{Hands, entries_of}
use Rattle.device_calls.specs.card_string.Inserts.{IsOnDay}
use Rattle.device_calls.specs.card_string.Since.{all_since, IsTied, HoldsSince}
use Rattle.device_calls.specs.card_string.Each.{KeepsSince}
use Rattle.device_calls.proofs.card_string.Since.{tied_wider}
use Rattle.device_calls.specs.history_model.Book.{Book}
use Rattle.device_calls.specs.device_rule.Rules.{Standing, since}
use Rattle.device_calls.proofs.device_rule.Holding.{rise-back}
use Rattle.run_promise.specs.Found.{CardFound}
use Rattle.run_promise.specs.Cards.{brought_by}
use Rattle.run_promise.proofs.Waiting.{counted-more}
use Rattle.run_devices.specs.Strung.{CardHoldsString}

-- the end mark of a card that goes by these sizes
pub mark-own : (app : Application) (x : List ℕ) → own_sizes x ≡ app → (own_view x).mark ≡ end_mark app x
unfolding own_view card_view
mark-own app x is = ap (λ (a : Application). end_mark a x) is

-- entries that follow a minute are later
follow-low : (m n : ℕ) (es : List Entry) → m ≤ n → Follow n es → Follow m es
follow-low m n [] le follow = tt
follow-low m n (e ∷ es) le follow = (omega (arith, le, follow.0), follow.1)

pub follow-later : (m : ℕ) (es : List Entry) → Follow m es → All (λ e. m < e.minute) es
follow-later m [] follow = All-nil (λ (e : Entry). m < e.minute)
follow-later m (e ∷ es) follow = All-cons (λ (e : Entry). m < e.minute) e es follow.0 (follow-later m es (follow-low m e.minute es (omega (arith, follow.0)) follow.1))

-- entries that rise follow a minute where the first does
pub rise-follow : (m : ℕ) (e : Entry) (es : List Entry) → m < e.minute → Rise (e ∷ es) → Follow m (e ∷ es)
rise-follow m e [] late rise = (late, tt)
rise-follow m e (d ∷ es) late rise = (late, rise-follow e.minute d es rise.0 rise.1)

follow-both : (m : ℕ) (rest es : List Entry) → Rise (rest ++ es) → Follow m rest → Follow m es → Follow m (rest ++ es)
follow-both m [] es rise first later = later
follow-both m (e ∷ rest) es rise first later = rise-follow m e (rest ++ es) first.0 rise

first-on : (n : ℕ) (rest es : List Entry) → n ≤ first_minute n es → first_minute n rest ≤ first_minute n (rest ++ es)
first-on n [] es le = le
first-on n (e ∷ rest) es le = omega arith

on-first : (mark : ℕ) (rest es : List Entry) → IsOnDay mark rest → IsOnDay mark (rest ++ es)
on-first mark [] es on = absurd on
on-first mark (e ∷ rest) es on = on

more-holds : (app : Application) (image : List ℕ) (hd : Hands) (brought es : List Entry) (n : ℕ) (x : List ℕ) → Rise (brought ++ es) → n ≤ first_minute n es → Follow (end_mark app x) es → HoldsSince app image hd brought n x → HoldsSince app image hd (brought ++ es) n x
more-holds app image hd brought es n x rise after late h =
    let split : brought ++ es ≡ entries_of h.written ++ (h.rest ++ es) = ap (λ (l : List Entry). l ++ es) h.split ∙ append_assoc (entries_of h.written) h.rest es in
    record {
      written = h.written;
      rest = h.rest ++ es;
      split = split;
      lie = h.lie;
      behind = follow-both (end_mark app x) h.rest es (rise-back (entries_of h.written) (h.rest ++ es) (subst Rise split rise)) h.behind late;
      stands = ⊎_elim
          (λ goes. inl (record { from = goes.from; later = omega (arith, goes.later, first-on n h.rest es after); goes = goes.goes; tied = goes.tied; marked = goes.marked; hands = goes.hands }))
          (λ broke. inr (record {
            session = broke.session;
            from = broke.from;
            later = omega (arith, broke.later, first-on n h.rest es after);
            left = ⊎_elim (λ old. inl old) (λ begun. inr (begun.0, on-first (end_mark app x) h.rest es begun.1)) broke.left;
            tied = subst (λ (l : List Entry). IsTied app image h.written l x) (append_assoc (entries_of h.written) h.rest es) (tied_wider app image h.written (entries_of h.written ++ h.rest) es x broke.tied);
            marked = broke.marked;
          })) h.stands;
    }

-- THE STRING, with entries more that each image lacks
pub held-more : (f : CardFound) (hd : Hands) (c : Card) (b d : Book) (z : Standing) (X : State) (es : List Entry) → brought_by c f.start d ≡ brought_by c f.start b ++ es → Rise (brought_by c f.start b ++ es)
    → ((x : List ℕ) → X.left_since f.began x → Follow (own_view x).mark es)
    → ((x : List ℕ) → X.may_leave x → Follow (own_view x).mark es × (suc (max f.start.word (since z (own_view x).newest)) ≤ first_minute (suc (max f.start.word (since z (own_view x).newest))) es)) → CardHoldsString f hd c b z X → CardHoldsString f hd c d z X
held-more f hd c b d z X es same rise late comes h = record {
  tells = h.tells;
  now = λ x there.
      let is = (h.now x there).0 in (
        is,
        subst (λ (all : List Entry). HoldsSince (own_sizes f.image) f.image hd all (suc (max f.start.word (since z (own_view x).newest))) x) (sym same)
            (more-holds (own_sizes f.image) f.image hd (brought_by c f.start b) es (suc (max f.start.word (since z (own_view x).newest))) x rise (comes x there).1 (subst (λ (m : ℕ). Follow m es) (mark-own (own_sizes f.image) x is) (comes x there).0) (h.now x there).1),
      );
  since = λ x left.
      let was = h.since x left in (
        was.0,
        subst (λ (all : List Entry). KeepsSince f.image hd.given all x) (sym same)
            (subst (λ (all : List Entry). KeepsOf f.image hd.given (all_since f.image all) (own_view x).held) (sym (counted-more (own_view x).mark (brought_by c f.start b) es (follow-later (own_view x).mark es (late x left)))) was.1),
      );
  told = h.told;
  behind = h.behind;
  stay = h.stay;
  number = h.number;
  still = h.still;
  registered = h.registered;
}
