-- What a run leaves on each card beside its entries, by what is carried of its string.
use Rattle.std.proofs.Common.{◌≡◌, ⊎_elim, ℕ, List, ◌++◌, append_assoc, refl, sym, ◌∙◌, ap, subst}
use Rattle.std.specs.Prelude.{option_to_list}
use Rattle.std.proofs.lemmas.List.{append-nil}
use Rattle.activity_codec.specs.declared.entries.Entry.{Entry}
use Rattle.trace_model.specs.declared.Card.{Card}
use Rattle.trace_model.specs.Trace.{TraceSecond}
use Rattle.tach_media.specs.card_layout.Application.{IsApplication}
use Rattle.device_calls.specs.card_image.Own.{own_view, own_sizes, IsOwnValid, KeepsOf}
use Rattle.device_calls.specs.card_string.Deeds.{IsMade}
use Rattle.device_calls.specs.card_string.Since.{all_since, HoldsSince}
use Rattle.device_calls.proofs.card_string.Deeds.{made_more}
use Rattle.device_calls.proofs.card_string.Kept.{holds_counted, holds_kept, keeps_more}
use Rattle.device_calls.specs.history_model.Minutes.{HistoryMinute, card_history}
use Rattle.device_calls.specs.history_model.Presence.{CardStart}
use Rattle.device_calls.specs.history_model.Book.{Book, all}
use Rattle.device_calls.proofs.history_model.Books.{history-append}
use Rattle.device_calls.specs.run_unit_course.Followed.{UnitPower, Lit, Due, Lost}
use Rattle.device_calls.specs.safety_model.Recording.{Recording, card_image, brought, history_of, expected_of}
use Rattle.device_calls.specs.safety_model.Safe.{Devices, card_of}
use Rattle.run_minutes.specs.run_promise.Found.{found_of, registration_of}
use Rattle.tacho_types.specs.declared.texts.Registration.{Registration}
use Rattle.run_minutes.specs.run_promise.Cards.{brought_by}
use Rattle.run_minutes.specs.run_promise.Between.{IsFound}
use Rattle.run_minutes.proofs.run_promise.CardEnd.{started}
use Rattle.run_minutes.proofs.run_promise.AccountsEnd.{ends-follow}
use Rattle.run_minutes.specs.run_devices.Registered.{TellsOfTwo}
use Rattle.run_minutes.specs.run_devices.Strung.{HasSameHolder}
use Rattle.run_minutes.specs.run_devices.Told.{sure_of}
use Rattle.run_minutes.specs.run_promise.Origin.{Origin, first_of}
use Rattle.run_minutes.specs.run_promise.Ends.{recording_by, recording_with}
use Rattle.run_acts.specs.run_record.Recorded.{Values, progress, carried, IsHeldBy, RecordBetweenSeconds}
use Rattle.recorder_with_cards.specs.Written.{IsWritten, AreWritten}
use Rattle.recorder_with_cards.specs.Still.{KeepTheirHolders, KeepTheirVehicles}
use Rattle.device_calls.specs.hand_model.Written.{Hands, IsPartOf, entries_of}
use Rattle.device_calls.specs.safety_model.Hands.{hands_done}
use Rattle.run_minutes.proofs.run_promise.RecordEnds.{found-with}

module _ (r : Recording) (c : Card) (x : List ℕ) where
  -- what is expected, where a book has the front of the history
  expected-by : (b : Book) (rest : List HistoryMinute) → history_of r ≡ all b ++ rest → expected_of r c ≡ (brought r c).entries ++ (brought_by c (brought r c) b ++ card_history c rest)
  expected-by b rest whole =
      ap (λ (start : CardStart). start.entries ++ (start.owed ++ card_history c (history_of r))) (started r c)
      ∙ ap (λ (es : List Entry). (brought r c).entries ++ es)
      (ap (λ (is : List HistoryMinute). (brought r c).owed ++ card_history c is) whole
      ∙ ap (λ (es : List Entry). (brought r c).owed ++ es) (history-append c (all b) rest)
      ∙ sym (append_assoc (brought r c).owed (card_history c (all b)) (card_history c rest)))

  written-by : IsApplication (own_sizes (card_image r c)) → own_sizes x ≡ own_sizes (card_image r c) → (hd : Hands) → IsPartOf hd.given (hands_done r c) → (lies tail : List Entry) (n : ℕ) → HoldsSince (own_sizes (card_image r c)) (card_image r c) hd lies n x
      → expected_of r c ≡ (brought r c).entries ++ (lies ++ tail) → IsWritten r c x
  written-by sound same hd given lies tail n h expected = record {
    shows = record {
      more = entries_of h.written;
      rest = h.rest ++ tail;
      whole = expected ∙ ap (λ (es : List Entry). (brought r c).entries ++ es) (ap (λ (es : List Entry). es ++ tail) h.split ∙ append_assoc (entries_of h.written) h.rest tail);
      kept = keeps_more (card_image r c) hd.given (hands_done r c) given ((brought r c).entries ++ entries_of h.written) (own_view x).held
          (subst (λ (es : List Entry). KeepsOf (card_image r c) hd.given (all_since (card_image r c) es) (own_view x).held) (holds_counted (own_sizes (card_image r c)) sound (card_image r c) x refl same hd lies n h)
          (holds_kept (own_sizes (card_image r c)) sound (card_image r c) x refl same hd lies n h));
    };
    made = ⊎_elim
        (λ goes. made_more (own_sizes (card_image r c)) (card_image r c) (entries_of h.written) (entries_of h.written) (h.rest ++ tail) x goes.tied.made)
        (λ broke. subst (λ (l : List Entry). IsMade (own_sizes (card_image r c)) (card_image r c) (entries_of h.written) l x) (append_assoc (entries_of h.written) h.rest tail) (made_more (own_sizes (card_image r c)) (card_image r c) (entries_of h.written) (entries_of h.written ++ h.rest) tail x broke.tied.made))
        h.stands;
  }

  written-held : (image : List ℕ) (start : CardStart) → image ≡ card_image r c → start ≡ brought r c → IsApplication (own_sizes image) → (hd : Hands) → IsPartOf hd.given (hands_done r c) → (b : Book) (rest : List HistoryMinute) → history_of r ≡ all b ++ rest → (n : ℕ)
      → (own_sizes x ≡ own_sizes image) × HoldsSince (own_sizes image) image hd (brought_by c start b) n x → IsWritten r c x
  written-held image start of_image of_start sound hd given b rest whole n held =
      let there : (own_sizes x ≡ own_sizes (card_image r c)) × HoldsSince (own_sizes (card_image r c)) (card_image r c) hd (brought_by c (brought r c) b) n x =
      subst (λ (s : CardStart). (own_sizes x ≡ own_sizes (card_image r c)) × HoldsSince (own_sizes (card_image r c)) (card_image r c) hd (brought_by c s b) n x) of_start
      (subst (λ (i : List ℕ). (own_sizes x ≡ own_sizes i) × HoldsSince (own_sizes i) i hd (brought_by c start b) n x) of_image held) in
      written-by (subst (λ (i : List ℕ). IsApplication (own_sizes i)) of_image sound) there.0 hd given (brought_by c (brought r c) b) (card_history c rest) n there.1 (expected-by b rest whole)

-- without the minute that may be there
sure-front : (b : Book) (history rest : List HistoryMinute) → history ≡ all b ++ rest → history ≡ all (sure_of b) ++ (option_to_list b.maybe ++ rest)
sure-front b history rest whole =
    whole ∙ append_assoc b.sure (option_to_list b.maybe) rest ∙ ap (λ (is : List HistoryMinute). is ++ (option_to_list b.maybe ++ rest)) (sym (append-nil b.sure))

module _ (o : Origin) (done : List TraceSecond) (supply : UnitPower) (v : Values) (began now : Devices) (h : RecordBetweenSeconds o done supply v now) (found : IsFound (recording_by o done v.log) o.found began) where
  abbrev r : Recording
  r = recording_with o done v.log v.stops

  found_r : IsFound r o.found began
  found_r = found-with (recording_by o done v.log) v.stops o.found began found

  front : (rest : List HistoryMinute) × (history_of r ≡ all h.book ++ rest)
  front = (ends-follow r o.from (first_of o) (progress v supply h.book) h.book h.recorded.followed refl refl).front

  pub are-written : AreWritten r now
  are-written c valid x there = by supply h.held
    where
      was : IsOwnValid (found_of o.found c).image
      was = subst IsOwnValid (sym (found_r.image c)) valid

      -- what keeps were given was done
      given : IsPartOf (h.hands c).given (hands_done r c)
      given = (h.handed.each c was).part

      dark : (b : Book) (rest : List HistoryMinute) → history_of r ≡ all b ++ rest → (n : ℕ) → (own_sizes x ≡ own_sizes (found_of o.found c).image) × HoldsSince (own_sizes (found_of o.found c).image) (found_of o.found c).image (h.hands c) (brought_by c (found_of o.found c).start b) n x
          → IsWritten r c x
      dark b rest whole n held = written-held r c x (found_of o.found c).image (found_of o.found c).start (found_r.image c) (found_r.start c) (h.found.sizes c was) (h.hands c) given b rest whole n held

      by : (s : UnitPower) → IsHeldBy o done s v (carried v h.due h.book h.standing h.brought h.hands h.firsts) now → IsWritten r c x
      by (Lit span) on = dark h.book front.0 front.1 _ ((on.powered.go.held c was).now x there)
      by Due off = dark (sure_of h.book) (option_to_list h.book.maybe ++ front.0) (sure-front h.book (history_of r) front.0 front.1) _ ((off.powerless.wait c was).held.now x there)
      by Lost off = dark (sure_of h.book) (option_to_list h.book.maybe ++ front.0) (sure-front h.book (history_of r) front.0 front.1) _ ((off.powerless.wait c was).held.now x there)

  -- and each card is its holder's still
  pub keep-holders : KeepTheirHolders r began now
  keep-holders c valid x left = subst (λ (i : List ℕ). HasSameHolder i x) (found_r.image c) (by supply h.held)
    where
      was : IsOwnValid (found_of o.found c).image
      was = subst IsOwnValid (sym (found_r.image c)) valid

      since : (card_of now c).left_since (found_of o.found c).began x
      since = subst (λ (t : ℕ). (card_of now c).left_since t x) (sym (found_r.clock c)) left

      by : (s : UnitPower) → IsHeldBy o done s v (carried v h.due h.book h.standing h.brought h.hands h.firsts) now → HasSameHolder (found_of o.found c).image x
      by (Lit span) on = (on.powered.go.held c was).still x since
      by Due off = (off.powerless.wait c was).held.still x since
      by Lost off = (off.powerless.wait c was).held.still x since

  -- and tells of no third vehicle
  pub keep-vehicles : KeepTheirVehicles r began now
  keep-vehicles c valid x left =
      subst (λ (i : List ℕ). TellsOfTwo (own_sizes i) (registration_of r.unit) i x) (found_r.image c)
      (subst (λ (v : Registration). TellsOfTwo (own_sizes (found_of o.found c).image) v (found_of o.found c).image x) (found_r.vehicle c) (by supply h.held))
    where
      was : IsOwnValid (found_of o.found c).image
      was = subst IsOwnValid (sym (found_r.image c)) valid

      since : (card_of now c).left_since (found_of o.found c).began x
      since = subst (λ (t : ℕ). (card_of now c).left_since t x) (sym (found_r.clock c)) left

      by : (s : UnitPower) → IsHeldBy o done s v (carried v h.due h.book h.standing h.brought h.hands h.firsts) now → TellsOfTwo (own_sizes (found_of o.found c).image) (found_of o.found c).vehicle (found_of o.found c).image x
      by (Lit span) on = (on.powered.go.held c was).registered x since
      by Due off = (off.powerless.wait c was).held.registered x since
      by Lost off = (off.powerless.wait c was).held.registered x since
