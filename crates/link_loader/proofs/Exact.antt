-- Each refusal comes exactly where a frame of its kind came.
use Rattle.std.proofs.Common.{◌≡◌, ℕ, ◌==◌, Bool, true, false, if◌then◌else◌, List, length, Option, Some, None, Result, Ok, Err, refl, ap, subst, inl, inr}
use Rattle.std.specs.Prelude.{◌⊎◌, is_some, OnOk, IfErr, ◌↔◌}
use Rattle.std.specs.Io.KnownBytes.{Appends}
use Rattle.link_model.specs.declared.request.Request.{Request}
use Rattle.message_model.specs.Messages.{Message}
use Rattle.link_loader.specs.declared.kind.Kind.{Kind}
use Rattle.link_loader.specs.declared.kind.Kind.TheVariants.{Negative, Broken, Agreed, Piece, Single, Other}
use Rattle.link_loader.specs.declared.fault.LoadFault.{LoadFault}
use Rattle.link_loader.specs.declared.fault.LoadFault.TheVariants as faults
use Rattle.link_loader.specs.Stages.{passed_over}
use Rattle.link_loader.specs.Coming.{kind_of}
use Rattle.link_loader.specs.Loading.{Loading, continued, with_piece, goes_on, goes_on_by, closed, closed_by, Finishes, Takes, IsRefused, IsUnexpected}
use Rattle.link_loader.proofs.FrameKinds.{refused_goes_nowhere}

-- a frame that closes a message does not go on
pub nowhere_by : (now : Loading) (frame : List ℕ) (kind : Kind) → is_some (closed_by now frame kind) ≡ true → goes_on_by now frame kind ≡ None
nowhere_by now frame (Negative s c) has = absurd (cc)
nowhere_by now frame (Broken w c) has = absurd (cc)
nowhere_by now frame Agreed has = absurd (cc)
nowhere_by now frame (Piece request) has = by (length frame == 255) has
  where
    by : (b : Bool) → is_some {T = Request × List ℕ} (if b then None else Some (request, with_piece now.bytes frame)) ≡ true → (if b then Some (continued now request frame) else None) ≡ None
    by true has = absurd (cc)
    by false has = refl
nowhere_by now frame (Single request) has = refl
nowhere_by now frame Other has = absurd (cc)

module _ (now new : Loading) (frame : List ℕ) where
  -- what neither goes on nor closes a message is not taken
  not_taken : (out : List ℕ) → goes_on now frame ≡ None → closed now frame ≡ None → Takes now frame new out → ⊥
  not_taken out nowhere open_ (inl on) = let goes = on.0 in absurd (cc)
  not_taken out nowhere open_ (inr put) = let closes = put.1.closes in absurd (cc)

  -- neither is what closes no message of the one that was asked for
  not_finished : (out : List ℕ) → is_some (closed now frame) ≡ true → ((m : Message) → Finishes now frame m → ⊥) → Takes now frame new out → ⊥
  not_finished out has lacks (inl on) = let goes = on.0 in let nowhere = nowhere_by now frame (kind_of now.stage frame) has in absurd (cc)
  not_finished out has lacks (inr put) = lacks put.0 put.1

  not_closed : (m : Message) → closed now frame ≡ None → Finishes now frame m → ⊥
  not_closed m open_ fin = let closes = fin.closes in absurd (cc)

  none_closed : closed now frame ≡ None → is_some (closed now frame) ≡ true → ⊥
  none_closed open_ has = let lacks : is_some (closed now frame) ≡ false = ap (λ (o : Option (Request × List ℕ)). is_some o) open_ in absurd (cc)

module _ {T : Type 0} (now new : Loading) (frame : List ℕ) (old_held held : Option (List ℕ)) where
  abbrev Result_taken : Result T LoadFault → Type 0
  Result_taken r = OnOk r ((out : List ℕ) × Takes now frame new out × Appends old_held held out)

  -- a negative answer that is not passed over
  pub negative : (r : Result T LoadFault) → Result_taken r → IfErr r (IsRefused now frame) → (service code : ℕ) → (r ≡ Err (faults.Negative service code)) ↔ ((kind_of now.stage frame ≡ Negative service code) × (passed_over now.end now.stage service code ≡ None))
  negative r taken refused service code = ((λ is. subst (λ (q : Result T LoadFault). IfErr q (IsRefused now frame)) is refused), (λ both. by r taken refused both.0 both.1))
    where
      by : (r : Result T LoadFault) → Result_taken r → IfErr r (IsRefused now frame) → kind_of now.stage frame ≡ Negative service code → passed_over now.end now.stage service code ≡ None → r ≡ Err (faults.Negative service code)
      by (Ok x) taken refused kind lacks = absurd (not_taken now new frame taken.0 (refused_goes_nowhere now frame service code kind lacks) (ap (closed_by now frame) kind) taken.1)
      by (Err (faults.Negative s c)) taken refused kind lacks = let other = refused.0 in cc
      by (Err faults.Unexpected) taken (inl other) kind lacks = absurd (cc)
      by (Err faults.Unexpected) taken (inr other) kind lacks = absurd (none_closed now new frame (ap (closed_by now frame) kind) other.0)
      by (Err (faults.Broken w c)) taken refused kind lacks = absurd (cc)
      by (Err faults.WriteFault) taken refused kind lacks = absurd (not_closed now new frame refused.0 (ap (closed_by now frame) kind) refused.1)
      by (Err faults.Memory) taken refused kind lacks = let other = refused.1 in absurd (cc)

  -- a piece out of its order
  pub broken : (r : Result T LoadFault) → Result_taken r → IfErr r (IsRefused now frame) → (wanted counter : ℕ) → (r ≡ Err (faults.Broken wanted counter)) ↔ (kind_of now.stage frame ≡ Broken wanted counter)
  broken r taken refused wanted counter = ((λ is. subst (λ (q : Result T LoadFault). IfErr q (IsRefused now frame)) is refused), (λ kind. by r taken refused kind))
    where
      by : (r : Result T LoadFault) → Result_taken r → IfErr r (IsRefused now frame) → kind_of now.stage frame ≡ Broken wanted counter → r ≡ Err (faults.Broken wanted counter)
      by (Ok x) taken refused kind = absurd (not_taken now new frame taken.0 (ap (goes_on_by now frame) kind) (ap (closed_by now frame) kind) taken.1)
      by (Err (faults.Negative s c)) taken refused kind = let other = refused.0 in absurd (cc)
      by (Err faults.Unexpected) taken (inl other) kind = absurd (cc)
      by (Err faults.Unexpected) taken (inr other) kind = absurd (none_closed now new frame (ap (closed_by now frame) kind) other.0)
      by (Err (faults.Broken w c)) taken refused kind = cc
      by (Err faults.WriteFault) taken refused kind = absurd (not_closed now new frame refused.0 (ap (closed_by now frame) kind) refused.1)
      by (Err faults.Memory) taken refused kind = let other = refused.1 in absurd (cc)

  -- what is unexpected is refused so, or there is no memory for the piece
  pub unexpected : (r : Result T LoadFault) → Result_taken r → IfErr r (IsRefused now frame) → IsUnexpected now frame → (r ≡ Err faults.Unexpected) ⊎ (r ≡ Err faults.Memory)
  unexpected (Ok x) taken refused (inl kind) = absurd (not_taken now new frame taken.0 (ap (goes_on_by now frame) kind) (ap (closed_by now frame) kind) taken.1)
  unexpected (Ok x) taken refused (inr lacks) = absurd (not_finished now new frame taken.0 lacks.0 lacks.1 taken.1)
  unexpected (Err (faults.Negative s c)) taken refused (inl kind) = let other = refused.0 in absurd (cc)
  unexpected (Err (faults.Negative s c)) taken refused (inr lacks) = absurd (none_closed now new frame (ap (closed_by now frame) refused.0) lacks.0)
  unexpected (Err faults.Unexpected) taken refused is = inl refl
  unexpected (Err (faults.Broken w c)) taken refused (inl kind) = absurd (cc)
  unexpected (Err (faults.Broken w c)) taken refused (inr lacks) = absurd (none_closed now new frame (ap (closed_by now frame) refused) lacks.0)
  unexpected (Err faults.WriteFault) taken refused (inl kind) = absurd (not_closed now new frame refused.0 (ap (closed_by now frame) kind) refused.1)
  unexpected (Err faults.WriteFault) taken refused (inr lacks) = absurd (lacks.1 refused.0 refused.1)
  unexpected (Err faults.Memory) taken refused is = inr refl
