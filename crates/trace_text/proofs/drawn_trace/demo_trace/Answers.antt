use Rattle.std.proofs.Common.{◌≡◌, ℕ, List, [], ◌∷◌, ◌++◌, ap, sym, subst, ◌∙◌, arith}
use Rattle.activity_codec.specs.declared.values.Slot.TheVariants.{Driver}
use Rattle.trace_model.specs.declared.Card.TheVariants.{A}
use Rattle.trace_model.specs.declared.Action.TheVariants.{Insert}
use Rattle.trace_model.specs.declared.Item.{Item}
use Rattle.trace_model.specs.declared.Item.TheVariants.{Act}
use Rattle.trace_text.specs.Trace.{IsWellFormed}
use Rattle.trace_text.specs.Demo.{drawn, days_of, demo_items}
use Rattle.trace_text.specs.declared.drawn_trace.TheConstants.{DAYS, FIRST_SECOND}
use Rattle.trace_text.proofs.Groups.{drawn-none, drawn-more}
use Rattle.trace_text.proofs.Pushed.{no-days, days-pushed}
use Rattle.trace_text.proofs.Formed.{demo-formed}
use Rattle.trace_text.proofs.drawn_trace.demo_trace.Goals as goal

pub loop-d-init : goal.loop-d-init
loop-d-init c = record {
  items = no-days c.push.new.self c.args.x;
  last = sym (drawn-none c.args.x);
}

pub loop-d-preserved : goal.loop-d-preserved
loop-d-preserved c =
    let v = c.loop-d.invariant in let day = c.in_ok-last.ensures in
    record {
      items = days-pushed c.push.new.self c.loop-d.items c.add_day.new.items c.loop-d.d c.args.x c.loop-d.last v.items v.last day.items;
      last = day.last ∙ ap (λ (n : ℕ). drawn 24 n) v.last ∙ sym (drawn-more 24 c.loop-d.d c.args.x);
    }

pub returns-clause-well : goal.returns-clause-well
returns-clause-well c =
    let x = c.args.x in let put_in = Act (Insert Driver A) in
    let all : c.loop-d.d ≡ DAYS = omega arith in
    let first : c.push.new.self ≡ put_in ∷ [] = c.in_ok-push.ensures.ok ∙ ap (λ (l : List Item). l ++ put_in ∷ []) c.new-items.ensures in
    let same : c.loop-d.items ≡ demo_items x =
    c.loop-d.invariant.items ∙ ap (λ (l : List Item). l ++ days_of c.loop-d.d x) first ∙ ap (λ (n : ℕ). put_in ∷ days_of n x) all in
    subst (λ (l : List Item). IsWellFormed FIRST_SECOND l) (sym same) (demo-formed x)
