use Rattle.std.proofs.Common.{◌≡◌, ◌∙◌, sym, subst, ◌≤◌, ◌<◌, ℕ, length, get_or, set, arith}
use Rattle.std.proofs.lemmas.Grind.{get_or_default_zero}
use Rattle.std.proofs.lemmas.List.{length-set}
use Rattle.std.specs.Prelude.{vec_capacity}
use Rattle.event_deviations.specs.Marked.{AreListed}
use Rattle.event_deviations.specs.declared.marks.Marks.TheInside.{Inside}
use Rattle.event_deviations.proofs.MarkLemmas.{AreListed-new, AreListed-old, marked_count_lt}
use Rattle.event_deviations.proofs.marks.Marks.put.Goals.{then-index-eq0, else-index-eq0}
use Rattle.event_deviations.proofs.marks.Marks.put.Goals as goal

-- marks with one more value
abbrev Holds : ℕ → ℕ → Inside → Type 0
Holds n v i = AreListed (set i.values.items n v) i.marked.items
    × (length (set i.values.items n v) ≤ vec_capacity i.marked)

pub add-requires : goal.add-requires
add-requires c =
    let vs = c.self.inside.values.items in
    let here : c.args.n < length vs = rw (← c.self.view_is) at c.requires.number in
    let room : length vs ≤ vec_capacity c.self.inside.marked = c.self.invariant.1 in
    let counted = c.self.invariant.0.counted in
    let was : get_or vs c.args.n 0 ≡ 0 = sym (get_or_default_zero vs c.args.n c.index.result.now here)
    ∙ sym c.index.ensures ∙ c.if-index-eq0.true in
    omega (arith, marked_count_lt vs c.args.n here was)

pub invariant_of-self : goal.invariant_of-self
invariant_of-self c =
    let vs = c.self.inside.values.items in
    let n = c.args.n in
    let v = c.args.value in
    let here : n < length vs = rw (← c.self.view_is) at c.requires.number in
    let room : length vs ≤ vec_capacity c.self.inside.marked = c.self.invariant.1 in
    let read : get_or vs n 0 ≡ c.index.result.now =
    sym (get_or_default_zero vs n c.index.result.now here) ∙ sym c.index.ensures in
    elim c.if-index-eq0.branch [
      | then-index-eq0 w ↦
          subst (Holds n v) (sym w.self-inside-is) (
            subst (AreListed (set vs n v)) (sym w.add.ensures.items)
                (AreListed-new vs c.self.inside.marked.items n v here c.requires.value (read ∙ w.if-index-eq0.true)
                c.self.invariant.0),
            omega (arith, length-set vs n v, w.add.ensures.room),
          )
      | else-index-eq0 w ↦
          subst (Holds n v) (sym w.self-inside-is) (
            AreListed-old vs c.self.inside.marked.items n v here c.requires.value
                (λ e. w.if-index-eq0.false (sym read ∙ e)) c.self.invariant.0,
            omega (arith, length-set vs n v),
          )
    ]
