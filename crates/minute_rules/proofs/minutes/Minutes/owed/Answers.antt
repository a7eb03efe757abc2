use Rattle.std.proofs.Common.{◌≡◌, ◌∙◌, ℕ, suc, ◌+◌, ◌-◌, List, [], ◌∷◌, ◌++◌, refl, ap, sym, arith, append_assoc}
use Rattle.minute_model.specs.declared.Minute.{Minute}
use Rattle.minute_rules.specs.Kept.{Kept, class_kept, owed_from}
use Rattle.minute_rules.proofs.minutes.Minutes.owed.Goals as goal

pub loop-i-preserved : goal.loop-i-preserved
loop-i-preserved c =
    let v = c.loop-i.invariant in
    let self = c.args.self.now in
    let own : c.self.inside.owing ≡ self.owing = ap (λ (k : Kept). k.owing) c.self.view_is in
    let left : self.owing - c.loop-i.i ≡ suc (self.owing - (c.loop-i.i + 1)) = omega (arith, own, c.loop-i-test.true) in
    let owed : owed_from self (self.owing - c.loop-i.i) ≡ class_kept self (self.owing - c.loop-i.i) ∷ owed_from self (self.owing - (c.loop-i.i + 1)) = rw left refl in
    record {
      all = ap (λ (ms : List Minute). ms ++ owed_from self (self.owing - (c.loop-i.i + 1))) (c.push.ensures.items ∙ ap (λ (m : Minute). c.loop-i.decided.items ++ m ∷ []) (c.class.ensures ∙ ap (λ (k : ℕ). class_kept self (k - c.loop-i.i)) own))
          ∙ append_assoc c.loop-i.decided.items (class_kept self (self.owing - c.loop-i.i) ∷ []) (owed_from self (self.owing - (c.loop-i.i + 1)))
          ∙ ap (λ (ms : List Minute). c.loop-i.decided.items ++ ms) (sym owed)
          ∙ v.all;
      many = omega (arith, c.push.ensures.len, v.many);
    }
