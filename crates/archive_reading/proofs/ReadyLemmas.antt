-- An archive that was resolved is ready for its report.
use Rattle.std.proofs.Common.{ℕ, ◌≡◌, ◌<◌, ◌^◌, Ok, All, length, get_or, ap, sym, subst, ◌∙◌, arith}
use Rattle.std.proofs.lemmas.List.{length-map}
use Rattle.std.proofs.lemmas.List.Elements.{All-map}
use Rattle.archive_reading.specs.Ready.{IsReady}
use Rattle.parallel_solve.proofs.ReadyLemmas as solutions
use Rattle.xhstt_completion.proofs.Resolved.{resolved-as}
use Rattle.xhstt_entries.specs.Texts.{HasSpellable}
use Rattle.xhstt_entries.proofs.SpellableLaws.{parts_spellable}
use Rattle.xhstt_resolve.specs.Parts.{parts_of}
use Rattle.xhstt_resolve.specs.Resolved.{resolved}
use Rattle.xhstt_resolve.specs.declared.resolving.Resolved.{Resolved}
use Rattle.xhstt_shape.specs.Characters.{IsSpellable}
use Rattle.xhstt_shape.specs.WellFormed as formed
use Rattle.khe_instance.specs.declared.parts.Parts.{Parts}
use Rattle.xhstt_shape.specs.declared.records.Archive.{Archive}

instances-few : (n m : ℕ) → n ≡ m → m < 2 ^ 32 → n < 2 ^ 32
instances-few n m e h = omega (arith, e, h)

instances-same : (a : Archive) (r : Resolved) → resolved a ≡ Ok r → length r.instances ≡ length a.instances
instances-same a r e = ap length (resolved-as a r e).instances ∙ length-map a.instances parts_of

pub ready : (a : Archive) (r : Resolved) → resolved a ≡ Ok r → formed.IsWellFormed a → length a.instances < 2 ^ 32
    → IsReady a r
ready a r e form few = record {
  resolved_is = e;
  ready = solutions.ready a r e form.in_form;
  same = sym (instances-same a r e);
  instances = instances-few (length r.instances) (length a.instances) (instances-same a r e) few;
  well_formed = form;
  texts = subst (All HasSpellable) (sym (resolved-as a r e).instances)
      (All-map HasSpellable parts_of a.instances
      (λ k d l. parts_spellable (get_or a.instances k d) (form.spellable.instances k d l)
      (form.in_form.instances k d l)));
  ids = subst (All (λ (p : Parts). IsSpellable p.id)) (sym (resolved-as a r e).instances)
      (All-map (λ (p : Parts). IsSpellable p.id) parts_of a.instances
      (λ k d l. (form.spellable.instances k d l).id));
}
