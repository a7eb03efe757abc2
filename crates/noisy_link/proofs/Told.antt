-- What a noisy download gives of a unit, whether it tells its image or not.
use Rattle.std.proofs.Common.{◌≡◌, ◌∙◌, ℕ, true, List, [], ◌∷◌, ◌++◌, Option, IfSome, sym, ap, subst, inl, inr, append_assoc}
use Rattle.std.specs.Prelude.{◌⊎◌}
use Rattle.std.specs.Io.KnownBytes.{Appends}
use Rattle.tach_media.specs.Streams.{AppendsFront}
use Rattle.card_layout.specs.Fields.{IsBytes}
use Rattle.unit_model.specs.Decoding.{Decodes}
use Rattle.unit_memory.proofs.Told.{told_all}
use Rattle.link_model.specs.Answers.{Idle}
use Rattle.message_model.specs.Sending.{unit_file}
use Rattle.link_session.specs.Told.{SessionView, Knows, is_judged, fresh}
use Rattle.link_loader.specs.declared.stage.Stage.TheVariants.{Finished}
use Rattle.link_loader.specs.Loading.{Loading, Load, begun}
use Rattle.link_loader.specs.Talking.{Talk}
use Rattle.unit_download.specs.Wires.{of_loader, of_unit, talk_of}
use Rattle.unit_download.proofs.Opening.{Opens, Begins, begins_next, judged_next}
use Rattle.unit_download.proofs.ToldUnit.{Sized, whole_told, front_told}
use Rattle.unit_download.proofs.Talking.{fresh_knows, known_by}
use Rattle.noisy_model.specs.declared.event.Event.{Event}
use Rattle.noisy_model.specs.Ends.{Taken}
use Rattle.noisy_model.specs.Worlds.{World, Passes, Talks}
use Rattle.noisy_model.proofs.Leading.{holds}
use Rattle.noisy_link.specs.Sides.{download_sides, fresh_download, puts_of}
use Rattle.noisy_link.proofs.Talking.{at, stays, exchanged, from_fresh}

-- nothing was asked of the unit, or it was judged
abbrev pub IsKnown : (image : Option (List ℕ)) → SessionView → Talk → Type 0
IsKnown image s talk = IfSome image (Knows s) × ((is_judged s ≡ true) ⊎ Begins talk)

module _ (image : Option (List ℕ)) where
  pub known : (u : SessionView) (l : Load) (took : List Taken) (v : SessionView) (m : Load) (out : List ℕ) → Talks (download_sides image) u l took v m → IsKnown image u (at u l out) → IsKnown image v (at v m (out ++ puts_of took))
  known u l [] v m out talks is = (subst (λ (s : SessionView). IfSome image (Knows s)) (sym talks.0) is.0, by is.1)
    where
      by : (is_judged u ≡ true) ⊎ Begins (at u l out) → (is_judged v ≡ true) ⊎ Begins (at v m (out ++ []))
      by (inl judged) = inl (ap is_judged talks.0 ∙ judged)
      by (inr begins) = inr (subst Begins (sym (stays u l out v m talks.0 talks.1)) begins)
  known u l (t ∷ took) v m out talks is =
      subst (λ (o : List ℕ). IsKnown image v (at v m o)) (append_assoc out t.put (puts_of took))
      (known talks.1 talks.2 took v m (out ++ t.put) talks.6 (talks.4.knows, by (judged_next (is_judged u) (is_judged talks.1) (at u l out) talks.0 is.1 talks.3 talks.4.judged)))
    where
      by : (is_judged talks.1 ≡ true) ⊎ Opens (at u l out) → (is_judged talks.1 ≡ true) ⊎ Begins (at talks.1 talks.2 (out ++ t.put))
      by (inl judged) = inl judged
      by (inr opens) =
          inr (begins_next image (at u l out) (at talks.1 talks.2 (out ++ t.put)) (of_loader talks.0) (of_unit t.frame) opens (exchanged image u l t out talks.0 talks.1 talks.2 talks.3 talks.4 talks.5))

  module _ (load : Load) (events : List Event) (w : World SessionView Load) (took : List Taken) (held sunk : Option (List ℕ)) (sized : Sized image) (begins : load.loading ≡ begun) (passes : Passes (download_sides image) (fresh_download load) events w took) (put : Appends held sunk (puts_of took)) where
    first : IsKnown image (fresh Idle) (at (fresh Idle) load [])
    first = (told_all image _ (λ x told. fresh_knows Idle x), inr (inl (inl (ap (λ (l : Loading). talk_of Idle l []) begins))))

    pub finished_told : w.loader.side.loading.stage ≡ Finished → IfSome image (λ x. Decodes x × (IsBytes x → Appends held sunk (unit_file x)))
    finished_told over =
        let talk = (holds (download_sides image) (fresh Idle) load w took events passes).talk in
        let run = from_fresh image load took talk.mid w.loader.side begins talk.talks in
        let know = known (fresh Idle) load took talk.mid w.loader.side [] talk.talks first in
        whole_told image run.wire (at talk.mid w.loader.side (puts_of took)) held sunk sized run.runs (known_by image talk.mid (at talk.mid w.loader.side (puts_of took)) know.0 know.1) over put

    pub front_so_far : IfSome image (λ x. IsBytes x → AppendsFront held sunk (unit_file x))
    front_so_far =
        let talk = (holds (download_sides image) (fresh Idle) load w took events passes).talk in
        let run = from_fresh image load took talk.mid w.loader.side begins talk.talks in
        let know = known (fresh Idle) load took talk.mid w.loader.side [] talk.talks first in
        front_told image run.wire (at talk.mid w.loader.side (puts_of took)) held sunk sized run.runs (known_by image talk.mid (at talk.mid w.loader.side (puts_of took)) know.0 know.1) put
