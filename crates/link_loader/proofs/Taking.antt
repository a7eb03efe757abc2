-- What a take answers: by a message that was closed, or by a refusal that is known.
use Rattle.std.proofs.Common.{◌≡◌, ◌∙◌, ℕ, List, Option, Some, Result, Ok, Err, sym, subst}
use Rattle.std.specs.Prelude.{OnOk, OnErr, IfErr}
use Rattle.std.specs.Io.KnownBytes.{Appends}
use Rattle.link_model.specs.declared.request.Request.{Request}
use Rattle.message_model.specs.Messages.{Message, message_bytes}
use Rattle.link_loader.specs.declared.fault.LoadFault.{LoadFault}
use Rattle.link_loader.specs.declared.fault.LoadFault.TheVariants as faults
use Rattle.link_loader.specs.Loading.{Loading, over, after_message, closed, IsAnswer, IsNotPut, Takes, IsRefused, left_by, LeavesSink}
use Rattle.link_loader.proofs.Closing.{put_out, not_put_refused, not_put_sink, not_put_left}

-- a message was closed
module _ {T : Type 0} (now new : Loading) (frame : List ℕ) (request : Request) (bytes : List ℕ) (closes : closed now frame ≡ Some (request, bytes)) (old_held held : Option (List ℕ)) where
  pub put_taken : (r : Result T LoadFault) → OnOk r ((m : Message) × IsAnswer request bytes m × (new ≡ after_message now m) × Appends old_held held (message_bytes m)) → OnOk r ((out : List ℕ) × Takes now frame new out × Appends old_held held out)
  put_taken (Ok x) put = put_out now frame request bytes closes new old_held held put.0 put.1 put.2 put.3
  put_taken (Err fault) put = tt

  pub put_refused : (r : Result T LoadFault) → IfErr r (λ fault. IsNotPut request bytes fault old_held held) → IfErr r (IsRefused now frame)
  put_refused (Ok x) not = tt
  put_refused (Err fault) not = not_put_refused now frame request bytes closes old_held held fault not

  pub put_sink : (r : Result T LoadFault) → IfErr r (λ fault. IsNotPut request bytes fault old_held held) → IfErr r (λ fault. LeavesSink now frame fault old_held held)
  put_sink (Ok x) not = tt
  put_sink (Err fault) not = not_put_sink now frame request bytes closes old_held held fault not

-- the download is over then
pub put_left : {T : Type 0} (now new : Loading) (request : Request) (bytes : List ℕ) (old_held held : Option (List ℕ)) (r : Result T LoadFault) → IfErr r (λ fault. IsNotPut request bytes fault old_held held) → OnErr r (new ≡ over now)
    → IfErr r (λ fault. new ≡ left_by fault now)
put_left now new request bytes old_held held (Ok x) not is = tt
put_left now new request bytes old_held held (Err fault) not is = is ∙ sym (not_put_left now request bytes old_held held fault not)

-- a negative answer is refused by no other fault
pub negative_not : {T A : Type 0} (r : Result T LoadFault) (service code : ℕ) (other : LoadFault) → IfErr r (λ fault. fault ≡ faults.Negative service code) → (other ≡ faults.Negative service code → ⊥) → r ≡ Err other → A
negative_not {T} r service code other is apart same = absurd (apart (subst (λ (q : Result T LoadFault). IfErr q (λ fault. fault ≡ faults.Negative service code)) same is))
