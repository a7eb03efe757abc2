-- A frame by its kind: where the download goes on, and what is closed.
use Rattle.std.proofs.Common.{◌≡◌, ◌∙◌, ℕ, ◌==◌, Bool, true, false, if◌then◌else◌, List, length, Option, Some, None, option_map, ap}
use Rattle.link_model.specs.declared.request.Request.{Request}
use Rattle.link_loader.specs.declared.stage.Stage.{Stage}
use Rattle.link_loader.specs.declared.kind.Kind.TheVariants.{Negative, Agreed, Piece, Single}
use Rattle.link_loader.specs.Stages.{passed_over, behind_answer}
use Rattle.link_loader.specs.Coming.{kind_of}
use Rattle.link_loader.specs.Loading.{Loading, at_stage, continued, with_piece, goes_on, goes_on_by, closed, closed_by}

module _ (now : Loading) (frame : List ℕ) where
  pub passed_goes_on : (service code : ℕ) (stage : Stage) → kind_of now.stage frame ≡ Negative service code → passed_over now.end now.stage service code ≡ Some stage → goes_on now frame ≡ Some (at_stage now.end stage)
  passed_goes_on service code stage is passed = ap (goes_on_by now frame) is ∙ ap (λ (o : Option Stage). option_map (at_stage now.end) o) passed

  pub refused_goes_nowhere : (service code : ℕ) → kind_of now.stage frame ≡ Negative service code → passed_over now.end now.stage service code ≡ None → goes_on now frame ≡ None
  refused_goes_nowhere service code is passed = ap (goes_on_by now frame) is ∙ ap (λ (o : Option Stage). option_map (at_stage now.end) o) passed

  pub agreed_goes_on : kind_of now.stage frame ≡ Agreed → goes_on now frame ≡ Some (at_stage now.end (behind_answer now.stage))
  agreed_goes_on is = ap (goes_on_by now frame) is

  pub more_goes_on : (request : Request) → kind_of now.stage frame ≡ Piece request → (length frame == 255) ≡ true → goes_on now frame ≡ Some (continued now request frame)
  more_goes_on request is full = ap (goes_on_by now frame) is ∙ ap (λ (b : Bool). if b then Some (continued now request frame) else None) full

  pub last_closes : (request : Request) → kind_of now.stage frame ≡ Piece request → (length frame == 255) ≡ false → closed now frame ≡ Some (request, with_piece now.bytes frame)
  last_closes request is short = ap (closed_by now frame) is ∙ ap (λ (b : Bool). if b then None else Some (request, with_piece now.bytes frame)) short

  pub single_closes : (request : Request) → kind_of now.stage frame ≡ Single request → closed now frame ≡ Some (request, frame)
  single_closes request is = ap (closed_by now frame) is
