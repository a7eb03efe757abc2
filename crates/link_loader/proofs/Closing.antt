-- A message that was closed, and goes out or not.
use Rattle.std.proofs.Common.{◌≡◌, ◌∙◌, ℕ, true, List, Option, Some, None, Result, Err, refl, ap, sym, subst, inr}
use Rattle.std.specs.Prelude.{is_some, IfErr}
use Rattle.std.specs.Io.KnownBytes.{Appends}
use Rattle.link_model.specs.declared.request.Request.{Request}
use Rattle.message_model.specs.Messages.{Message, message_bytes}
use Rattle.link_loader.specs.declared.fault.LoadFault.{LoadFault}
use Rattle.link_loader.specs.declared.fault.LoadFault.TheVariants as faults
use Rattle.link_loader.specs.Loading.{Loading, after_message, over, closed, IsAnswer, Finishes, Takes, IsRefused, IsNotPut, left_by, LeavesSink}

-- what is behind Some, or else this
abbrev pub payload : Request × List ℕ → Option (Request × List ℕ) → Request × List ℕ
payload other None = other
payload other (Some pair) = pair

module _ (now : Loading) (frame : List ℕ) (request : Request) (bytes : List ℕ) (closes : closed now frame ≡ Some (request, bytes)) where
  pub finishes : (m : Message) → IsAnswer request bytes m → Finishes now frame m
  finishes m answer = record { request = request; bytes = bytes; closes = closes; answer = answer }

  -- what finishes a message answers the request that was closed
  pub answers : (m : Message) → Finishes now frame m → IsAnswer request bytes m
  answers m fin =
      let pairs = ap (payload (request, bytes)) (sym fin.closes ∙ closes) in
      subst (λ (r : Request). IsAnswer r bytes m) (ap (λ (p : Request × List ℕ). p.0) pairs)
      (subst (λ (b : List ℕ). IsAnswer fin.request b m) (ap (λ (p : Request × List ℕ). p.1) pairs) fin.answer)

  pub put_out : (new : Loading) (old_held held : Option (List ℕ)) → (m : Message) → IsAnswer request bytes m → new ≡ after_message now m → Appends old_held held (message_bytes m) → (out : List ℕ) × Takes now frame new out × Appends old_held held out
  put_out new old_held held m answer is appends = (message_bytes m, inr (m, finishes m answer, is, refl), appends)

  closed_some : is_some (closed now frame) ≡ true
  closed_some = ap (λ (o : Option (Request × List ℕ)). is_some o) closes

  pub not_put_refused : (old_held held : Option (List ℕ)) (fault : LoadFault) → IsNotPut request bytes fault old_held held → IsRefused now frame fault
  not_put_refused old_held held (faults.Negative s c) not = absurd not
  not_put_refused old_held held faults.Unexpected not = inr (closed_some, λ m fin. not.0 m (answers m fin))
  not_put_refused old_held held (faults.Broken w c) not = absurd not
  not_put_refused old_held held faults.WriteFault not = (not.0, finishes not.0 not.1)
  not_put_refused old_held held faults.Memory not = absurd not

  pub not_put_sink : (old_held held : Option (List ℕ)) (fault : LoadFault) → IsNotPut request bytes fault old_held held → LeavesSink now frame fault old_held held
  not_put_sink old_held held (faults.Negative s c) not = absurd not
  not_put_sink old_held held faults.Unexpected not = not.1
  not_put_sink old_held held (faults.Broken w c) not = absurd not
  not_put_sink old_held held faults.WriteFault not = (not.0, finishes not.0 not.1, not.2)
  not_put_sink old_held held faults.Memory not = absurd not

-- the download is over then
pub not_put_left : (now : Loading) (request : Request) (bytes : List ℕ) (old_held held : Option (List ℕ)) (fault : LoadFault) → IsNotPut request bytes fault old_held held → left_by fault now ≡ over now
not_put_left now request bytes old_held held (faults.Negative s c) not = refl
not_put_left now request bytes old_held held faults.Unexpected not = refl
not_put_left now request bytes old_held held (faults.Broken w c) not = refl
not_put_left now request bytes old_held held faults.WriteFault not = refl
not_put_left now request bytes old_held held faults.Memory not = absurd not

-- and it is not for want of memory
pub not_put_not_memory : {T A : Type 0} (r : Result T LoadFault) (request : Request) (bytes : List ℕ) (old_held held : Option (List ℕ)) → IfErr r (λ fault. IsNotPut request bytes fault old_held held) → r ≡ Err faults.Memory → A
not_put_not_memory {T} r request bytes old_held held not is = absurd (subst (λ (q : Result T LoadFault). IfErr q (λ fault. IsNotPut request bytes fault old_held held)) is not)
