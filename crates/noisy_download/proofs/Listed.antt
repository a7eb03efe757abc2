-- A talk over a link that keeps all, with the exchanges that have passed in it.
use Rattle.std.proofs.Common.{◌≡◌, ◌∙◌, ℕ, List, [], ◌∷◌, ◌++◌, Option, Some, refl, sym, ap, subst, append_assoc, append-nil}
use Rattle.link_session.specs.Told.{SessionView}
use Rattle.link_loader.specs.Talking.{Talk, fresh_talk}
use Rattle.unit_download.specs.declared.wire.Passed.{Passed}
use Rattle.unit_download.specs.Wires.{of_loader, of_unit, Runs}
use Rattle.unit_download.proofs.Linked.{runs_on}
use Rattle.noisy_model.specs.declared.event.Event.{Event}
use Rattle.noisy_model.specs.Ends.{Sides, Taken}
use Rattle.noisy_model.specs.Worlds.{World, Happens, Passes, Talks}
use Rattle.noisy_link.specs.Sides.{IsReply, download_sides, puts_of}
use Rattle.noisy_link.proofs.Talking.{at, exchanged}
use Rattle.noisy_download.specs.Listing.{Listing, ListTakes, listing_sides}

one_sent : (a b : List ℕ) → Some a ≡ Some b → a ≡ b
one_sent a b e = cc

module _ (image : Option (List ℕ)) where
  -- the exchanges that have passed are a run of both tables
  pub listed_run : (u : SessionView) (l : Listing) (took : List Taken) (v : SessionView) (m : Listing) (out : List ℕ) → Talks (listing_sides image) u l took v m → Runs image l.exchanges fresh_talk (at u l.load out)
      → Runs image m.exchanges fresh_talk (at v m.load (out ++ puts_of took))
  listed_run u l [] v m out talks runs =
      subst (λ (w : SessionView). Runs image m.exchanges fresh_talk (at w m.load (out ++ []))) (sym talks.0)
      (subst (λ (k : Listing). Runs image k.exchanges fresh_talk (at u k.load (out ++ []))) (sym talks.1)
      (subst (λ (o : List ℕ). Runs image l.exchanges fresh_talk (at u l.load o)) (sym (append-nil out)) runs))
  listed_run u l (t ∷ took) v m out talks runs =
      let next : SessionView = talks.1 in
      let after : Listing = talks.2 in
      let takes : ListTakes l t.frame after t.put = talks.5 in
      let mid : Talk = at next after.load (out ++ t.put) in
      let same : talks.0 ≡ takes.request = one_sent talks.0 takes.request (sym talks.3 ∙ takes.asks) in
      let reply = subst (λ (r : List ℕ). IsReply image u r (Some t.frame) next) same talks.4 in
      let exchange = exchanged image u l.load t out takes.request next after.load takes.asks reply takes.takes in
      let longer = runs_on image l.exchanges fresh_talk (at u l.load out) (of_loader takes.request) (of_unit t.frame) mid runs exchange in
      subst (λ (o : List ℕ). Runs image m.exchanges fresh_talk (at v m.load o)) (append_assoc out t.put (puts_of took))
      (listed_run next after took v m (out ++ t.put) talks.6 (subst (λ (wire : List Passed). Runs image wire fresh_talk mid) (sym takes.lists) longer))

  -- the same talk with no list
  pub unlisted : (u : SessionView) (l : Listing) (took : List Taken) (v : SessionView) (m : Listing) → Talks (listing_sides image) u l took v m → Talks (download_sides image) u l.load took v m.load
  unlisted u l [] v m talks = (talks.0, ap (λ (k : Listing). k.load) talks.1)
  unlisted u l (t ∷ took) v m talks =
      let takes : ListTakes l t.frame talks.2 t.put = talks.5 in
      (talks.0, talks.1, talks.2.load, talks.3, talks.4, takes.takes, unlisted talks.1 talks.2 took v m talks.6)

-- one event more
pub passes_on : {U L : Type 0} (sides : Sides U L) (old : World U L) (events : List Event) (mid : World U L) (took : List Taken) (event : Event) (new : World U L) (more : List Taken) → Passes sides old events mid took → Happens sides mid event new more
    → Passes sides old (events ++ event ∷ []) new (took ++ more)
passes_on {U} {L} sides old [] mid took event new more passes happens = (
  new,
  more,
  [],
  subst (λ (w : World U L). Happens sides w event new more) passes.0 happens,
  (refl, refl),
  ap (λ (l : List Taken). l ++ more) passes.1 ∙ sym (append-nil more),
)
passes_on sides old (first ∷ events) mid took event new more passes happens = (
  passes.0,
  passes.1,
  passes.2 ++ more,
  passes.3,
  passes_on sides passes.0 events mid passes.2 event new more passes.4 happens,
  ap (λ (l : List Taken). l ++ more) passes.5 ∙ append_assoc passes.1 passes.2 more,
)

pub puts_on : (took more : List Taken) → puts_of (took ++ more) ≡ puts_of took ++ puts_of more
puts_on [] more = refl
puts_on (t ∷ took) more = ap (λ (l : List ℕ). t.put ++ l) (puts_on took more) ∙ sym (append_assoc t.put (puts_of took) (puts_of more))
