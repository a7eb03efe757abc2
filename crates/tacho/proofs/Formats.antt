-- How a command ends that makes a device new, by what its calls answered.
use Rattle.std.proofs.Common.{◌≡◌, ◌∙◌, sym, ap, subst, refl, inl, inr, ⊎_elim, ℕ, ◌+◌, ◌<◌, true, false, List, [], ◌++◌, length, drop, arith, append-nil}
use Rattle.std.specs.Prelude.{Option, None, Some, option_map, Result, Ok, Err, OnOk, IfErr, is_err}
use Rattle.std.specs.Io.KnownBytes.{Appends}
use Rattle.std.proofs.lemmas.List.{drop_all}
use Rattle.tach_media.specs.Medium.{State, IsCoherent, LeavesOnly, IsSettled, HasCause, Rose, last_count, put}
use Rattle.tach_media.specs.Streams.{AppendsFront}
use Rattle.card_layout.specs.Issue.{IsIssued}
use Rattle.tach_media.proofs.Runs.{weaken}
use Rattle.run_model.specs.declared.Device.{Device}
use Rattle.card_layout.specs.Files.{files_of, image_size_of}
use Rattle.tacho.specs.declared.end.Fault.{Fault}
use Rattle.tacho.specs.declared.end.Fault.TheVariants.{WriteFault, MediumFault}
use Rattle.card_layout.specs.declared.files.TheConstants.{LARGEST, LARGEST_IMAGE}
use Rattle.tacho.specs.End.{end_of}
use Rattle.tacho.specs.Outside.{SinkTold}
use Rattle.tacho.specs.Formatting.{IsCard, EndsFormat, IsIssuing, IsMade, formatted_line}

-- a card of the largest sizes
pub largest-size : image_size_of LARGEST ≡ LARGEST_IMAGE
unfolding files_of
largest-size = refl

-- what holds of an Ok that is one
pub of-ok : {T E P : Type 0} (r : Result T E) → is_err r ≡ false → OnOk r P → P
of-ok (Ok v) fine p = p
of-ok (Err e) fine p = absurd (cc)

-- an image that covers all of the old one
put-whole : (image x : List ℕ) → length x ≡ length image → put 0 image x ≡ image
put-whole image x same =
    let rest : drop (0 + length image) x ≡ [] = drop_all (0 + length image) x (omega (arith, same)) in
    ap (λ (l : List ℕ). image ++ l) rest ∙ append-nil image

made-by : (image : List ℕ) (o p : Option (List ℕ)) → p ≡ option_map (put 0 image) o → ((x : List ℕ) → o ≡ Some x → length x ≡ length image) → p ≡ option_map (λ _. image) o
made-by image None p is sized = is
made-by image (Some x) p is sized = is ∙ ap Some (put-whole image x (sized x refl))

-- the device failed
pub make-failed : (device : Device) (image : List ℕ) (R : List ℕ → List ℕ → Type 0) (old new : State) (sink : SinkTold) → LeavesOnly old new R → HasCause old new true → EndsFormat device image R old new sink sink (MediumFault device)
make-failed device image R old new sink run cause = record {
  ends = refl;
  done = λ is. absurd (cc);
  front = λ is. absurd (cc);
  moments = run;
  settled = λ some fine. absurd (cc);
  cause = λ some. cause;
  write_fault = λ is. absurd (cc);
  finishes = λ no_device no_sink. absurd (no_device (cause.fault refl));
}

-- the device is new, and the line was printed or the sink failed
pub make-done : {T : Type 0} (device : Device) (image : List ℕ) (R : List ℕ → List ℕ → Type 0) (old new : State) (before after : SinkTold) (r : Result T Fault) → LeavesOnly old new R → IsMade image old new → (new.clock < last_count → IsSettled new) → HasCause old new false
    → OnOk r (Appends before.held after.held formatted_line) → IfErr r (λ fault. (fault ≡ WriteFault) × AppendsFront before.held after.held formatted_line) → IfErr r (λ fault. Rose before.faults after.faults)
    → EndsFormat device image R old new before after (end_of r)
make-done device image R old new before after (Ok u) run made settled cause appends front rose = record {
  ends = tt;
  done = λ is. (made, appends);
  front = λ is. absurd (cc);
  moments = run;
  settled = λ some fine. settled;
  cause = λ some. cause;
  write_fault = λ is. absurd (cc);
  finishes = λ no_device no_sink. inl refl;
}
make-done device image R old new before after (Err fault) run made settled cause appends front rose =
    subst (λ (f : Fault). EndsFormat device image R old new before after f) (sym front.0) (record {
      ends = tt;
      done = λ is. absurd (cc);
      front = λ is. (made, front.1);
      moments = run;
      settled = λ some fine. settled;
      cause = λ some. cause;
      write_fault = λ is. rose;
      finishes = λ no_device no_sink. absurd (no_sink rose);
    })

module _ (device : Device) (image : List ℕ) (old new : State) (whole : IsCoherent old) (size : length image ≡ LARGEST_IMAGE) (card : IsCard old) where
  sized : (x : List ℕ) → old.image ≡ Some x → length x ≡ length image
  sized x told = omega (arith, whole.sized x told, card.sized, card.behind, size)

  -- what a stop leaves of an issue that covers the card
  issuing : LeavesOnly old new (IsIssued image) → LeavesOnly old new (IsIssuing image)
  issuing run = weaken run (λ x c told left. ⊎_elim (λ part. inl part) (λ all. inr (all ∙ put-whole image x (sized x told))) left)

  -- the issue failed
  pub issue-failed : (sink : SinkTold) → LeavesOnly old new (IsIssued image) → HasCause old new true → EndsFormat device image (IsIssuing image) old new sink sink (MediumFault device)
  issue-failed sink run cause = make-failed device image (IsIssuing image) old new sink (issuing run) cause

  -- it is done, and the line was printed or the sink failed
  pub issue-done : {T : Type 0} (before after : SinkTold) (r : Result T Fault) → LeavesOnly old new (IsIssued image) → new.image ≡ option_map (put 0 image) old.image → (new.clock < last_count → IsSettled new) → HasCause old new false
      → OnOk r (Appends before.held after.held formatted_line) → IfErr r (λ fault. (fault ≡ WriteFault) × AppendsFront before.held after.held formatted_line) → IfErr r (λ fault. Rose before.faults after.faults)
      → EndsFormat device image (IsIssuing image) old new before after (end_of r)
  issue-done before after r run written settled cause appends front rose =
      make-done device image (IsIssuing image) old new before after r (issuing run) (made-by image old.image new.image written sized) settled cause appends front rose
