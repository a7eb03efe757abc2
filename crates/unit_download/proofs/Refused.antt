-- A frame that is taken is not refused.
use Rattle.std.proofs.Common.{◌≡◌, ℕ, List, Option, Some, None, ap, inl, inr}
use Rattle.std.specs.Prelude.{is_some}
use Rattle.link_model.specs.declared.request.Request.{Request}
use Rattle.message_model.specs.Messages.{Message}
use Rattle.link_loader.specs.declared.fault.LoadFault.{LoadFault}
use Rattle.link_loader.specs.declared.fault.LoadFault.TheVariants as load
use Rattle.link_loader.specs.Coming.{kind_of}
use Rattle.link_loader.specs.Loading.{Loading, goes_on, goes_on_by, closed, closed_by, Finishes, Takes, IsRefused}
use Rattle.link_loader.proofs.FrameKinds.{refused_goes_nowhere}
use Rattle.link_loader.proofs.Exact.{nowhere_by}
use Rattle.unit_download.specs.Ending.{IsOfFrame}

module _ (now : Loading) (frame : List ℕ) where
  -- what finishes a message does not go on
  pub finished_stays : (m : Message) → Finishes now frame m → goes_on now frame ≡ None
  finished_stays m fin = nowhere_by now frame (kind_of now.stage frame) (ap (λ (o : Option (Request × List ℕ)). is_some o) fin.closes)

  pub going_finishes_none : (new : Loading) (m : Message) → goes_on now frame ≡ Some new → Finishes now frame m → ⊥
  going_finishes_none new m on fin = let none = finished_stays m fin in absurd (cc)

  -- what neither goes on nor finishes a message is not taken
  neither : (new : Loading) (out : List ℕ) → goes_on now frame ≡ None → ((m : Message) → Finishes now frame m → ⊥) → Takes now frame new out → ⊥
  neither new out none no_message (inl on) = let here = on.0 in absurd (cc)
  neither new out none no_message (inr put) = no_message put.0 put.1

  closes_none : closed now frame ≡ None → (m : Message) → Finishes now frame m → ⊥
  closes_none none m fin = let here = fin.closes in absurd (cc)

  unexpected : (new : Loading) (out : List ℕ) → Takes now frame new out → IsRefused now frame load.Unexpected → ⊥
  unexpected new out takes (inl other) = neither new out (ap (goes_on_by now frame) other) (closes_none (ap (closed_by now frame) other)) takes
  unexpected new out takes (inr both) = neither new out (nowhere_by now frame (kind_of now.stage frame) both.0) both.1 takes

  pub taken_not_refused : (new : Loading) (out : List ℕ) (fault : LoadFault) → IsOfFrame fault → Takes now frame new out → IsRefused now frame fault → ⊥
  taken_not_refused new out (load.Negative service code) of takes refused =
      neither new out (refused_goes_nowhere now frame service code refused.0 refused.1) (closes_none (ap (closed_by now frame) refused.0)) takes
  taken_not_refused new out load.Unexpected of takes refused = unexpected new out takes refused
  taken_not_refused new out (load.Broken wanted counter) of takes refused = neither new out (ap (goes_on_by now frame) refused) (closes_none (ap (closed_by now frame) refused)) takes
  taken_not_refused new out load.WriteFault of takes refused = of
  taken_not_refused new out load.Memory of takes refused = of
