-- Where each image of a card holds its string, that is carried.
use Rattle.std.proofs.Common.{◌≡◌, ◌⊎◌, inl, inr, ⊎_elim, ℕ, suc, max, ◌≤◌, List, [], ◌∷◌, ◌++◌, refl, ap, subst, ◌∙◌, sym, arith}
use Rattle.std.proofs.lemmas.List.{append_cancel_left}
use Rattle.device_calls.specs.activity_codec.declared.entries.Entry.{Entry}
use Rattle.device_calls.specs.trace_model.declared.Card.{Card}
use Rattle.tach_media.specs.Medium.{State}
use Rattle.device_calls.specs.card_image.View.{CardView}
use Rattle.device_calls.specs.card_image.Own.{own_view, own_sizes, KeepsFrom, KeepsOf}
use Rattle.device_calls.specs.card_session.Repairs.{first_minute}
use Rattle.device_calls.specs.card_image.Fields.{end_mark}
use Rattle.device_calls.specs.card_session.Inserting.{Follow}
use Rattle.device_calls.specs.hand_model.Written.{Hands, entries_of}
use Rattle.device_calls.specs.card_string.Since.{GoesSince, BrokeSince, HoldsSince}
use Rattle.device_calls.proofs.card_string.Since.{later_holds}
use Rattle.device_calls.proofs.card_string.Kept.{holds_counted, holds_from}
use Rattle.device_calls.specs.history_model.Minutes.{HistoryMinute, card_history, up_to}
use Rattle.device_calls.specs.history_model.Presence.{CardStart}
use Rattle.device_calls.specs.history_model.Book.{Book, all}
use Rattle.device_calls.proofs.history_model.Books.{all-none, up_to-whole}
use Rattle.device_calls.proofs.history_model.Filters.{all-back}
use Rattle.device_calls.specs.device_rule.Views.{UnitView, unit_view, owed, newest_with}
use Rattle.device_calls.specs.device_rule.Rules.{Standing, Out, since, comes_from, Meets}
use Rattle.device_calls.proofs.device_rule.Pairs.{owed-above}
use Rattle.run_promise.specs.Found.{CardFound, Found, found_of, AnyKept}
use Rattle.run_promise.specs.Cards.{brought_by, counted_to, StringGoesOn, IsStrung}
use Rattle.run_promise.proofs.Entries.{counted-front, keeps-later}
use Rattle.run_devices.specs.Strung.{EachIsStrung, CardHoldsString}

-- where the first that is owed comes, or the bound
first-low : (start : CardStart) (z : Standing) (n : ℕ) (due : List Entry) (x : CardView) → n ≤ suc (max start.word (since z x.newest)) → first_minute n due ≤ comes_from start z due x
first-low start z n [] x le = le
first-low start z n (e ∷ due) x le = omega arith

module _ (f : Found) (hd : Hands) (c : Card) (b : Book) (z : Standing) (unit card : State) (s : EachIsStrung f hd c b z unit card) where
  abbrev g : CardFound
  g = found_of f c

  abbrev lies : List Entry
  lies = brought_by c g.start b

  module _ (u x : List ℕ) (on : unit.may_leave u) (there : card.may_leave x) where
    abbrev v : UnitView
    v = unit_view f.card_a.number f.card_b.number u

    abbrev due : List Entry
    due = owed c v (own_view x)

    abbrev n : ℕ
    n = suc (max g.start.word (since z (own_view x).newest))

    meets : Meets c g.start AnyKept (all b) z v (own_view x)
    meets = s.rests.meets v (own_view x) (u, on, refl) (x, there, refl)

    -- the unit has all minutes: what the card has had and what is owed to it are all entries
    whole : meets.more ++ due ≡ lies
    whole = meets.whole ∙ ap (λ (is : List HistoryMinute). g.start.owed ++ card_history c is) (ap (up_to v.last) (all-none b s.none) ∙ up_to-whole v.last b.sure (s.sure v (u, on, refl)) ∙ sym (all-none b s.none))

    counted : counted_to (own_view x).mark lies ≡ meets.more
    counted = ap (counted_to (own_view x).mark) (sym whole) ∙ counted-front (own_view x).mark meets.more due (all-back (λ (e : Entry). e.minute ≤ (own_view x).mark) g.start.entries meets.more meets.had) (owed-above c v (own_view x))

    held : HoldsSince (own_sizes g.image) g.image hd lies n x
    held = (s.held.now x there).1

    more-same : entries_of held.written ≡ counted_to (own_view x).mark lies
    more-same = sym (holds_counted (own_sizes g.image) s.sizes g.image x refl (s.held.now x there).0 hd lies n held)

    -- what the string lacks is what is owed
    rest-same : held.rest ≡ due
    rest-same = append_cancel_left (entries_of held.written) held.rest due (sym held.split ∙ sym whole ∙ ap (λ (es : List Entry). es ++ due) (sym counted ∙ sym more-same))

    goes : StringGoesOn g hd.given c b z due x
    goes =
        keeps-later g.image hd.given (first_minute n due) (comes_from g.start z due (own_view x)) (g.start.entries ++ counted_to (own_view x).mark lies) (own_view x).held (first-low g.start z n due (own_view x) (omega arith))
        (subst (λ (es : List Entry). KeepsFrom g.image hd.given (first_minute n due) (es ++ counted_to (own_view x).mark lies) (own_view x).held) (sym s.entries)
        (subst (λ (es : List Entry). KeepsFrom g.image hd.given (first_minute n due) ((own_view g.image).held.entries ++ es) (own_view x).held) more-same
        (subst (λ (es : List Entry). KeepsFrom g.image hd.given (first_minute n es) ((own_view g.image).held.entries ++ entries_of held.written) (own_view x).held) rest-same
        (holds_from (own_sizes g.image) s.sizes g.image x refl (s.held.now x there).0 hd lies n held))))

  pub strung : IsStrung f hd c b z unit card
  strung = record {
    string = record {
      kept = λ x left. subst (λ (es : List Entry). KeepsOf g.image hd.given (es ++ counted_to (own_view x).mark lies) (own_view x).held) (sym s.entries) (s.held.since x left).1;
      told = s.held.told;
      behind = s.held.behind;
      stay = s.held.stay;
      valid = s.valid;
      sizes = λ x left. (s.held.since x left).0;
      number = λ x left. (s.held.still x left).number;
      rises = s.rises;
    };
    comes = goes;
  }

  -- A card that is not accepted any more: where it lacks nothing, its newest minute is not earlier than it was as it stood.
  module _ (u : List ℕ) (on : unit.may_leave u) where
    abbrev out : List ℕ → ℕ
    out x = suc (max g.start.word (own_view x).newest)

    -- behind an entry that it lacks no bound matters
    out-lacking : (e : Entry) (rest : List Entry) (x : List ℕ) (h : HoldsSince (own_sizes g.image) g.image hd lies (suc (max g.start.word (since z (own_view x).newest))) x) → h.rest ≡ e ∷ rest → HoldsSince (own_sizes g.image) g.image hd lies (out x) x
    out-lacking e rest x h is = record {
      written = h.written;
      rest = e ∷ rest;
      split = h.split ∙ ap (λ (es : List Entry). entries_of h.written ++ es) is;
      lie = h.lie;
      behind = subst (Follow (end_mark (own_sizes g.image) x)) is h.behind;
      stands = ⊎_elim (λ goes. inl goes) (λ broke. inr (record { session = broke.session; from = broke.from; later = broke.later; left = broke.left; tied = broke.tied; marked = broke.marked }))
          (subst (λ (es : List Entry). GoesSince (own_sizes g.image) g.image h.written (first_minute (suc (max g.start.word (since z (own_view x).newest))) es) x
          ⊎ BrokeSince (own_sizes g.image) g.image h.written es (suc (max g.start.word (since z (own_view x).newest))) x) is h.stands);
    }

    out-image : (x : List ℕ) (there : card.may_leave x) (rest : List Entry) → (held u x on there).rest ≡ rest → HoldsSince (own_sizes g.image) g.image hd lies (out x) x
    out-image x there [] none =
        let owes : due u x on there ≡ [] = sym (rest-same u x on there) ∙ none in
        let low = subst (λ (es : List Entry). since z (newest_with (own_view x) es) ≤ max g.start.word (newest_with (own_view x) es)) owes (meets u x on there).accepted in
        later_holds (own_sizes g.image) g.image hd lies (n u x on there) (out x) x (omega (arith, low)) (held u x on there)
    out-image x there (e ∷ rest) some = out-lacking e rest x (held u x on there) some

    pub held-out : CardHoldsString g hd c b Out card
    held-out = record { tells = s.held.tells; now = λ x there. ((s.held.now x there).0, out-image x there (held u x on there).rest refl); since = s.held.since; told = s.held.told; behind = s.held.behind; stay = s.held.stay; number = s.held.number; still = s.held.still; registered = s.held.registered }
