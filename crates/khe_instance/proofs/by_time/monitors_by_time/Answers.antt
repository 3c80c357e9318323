-- One monitor more.
use Rattle.std.proofs.Common.{◌≡◌, ◌∙◌, ◌<◌, ◌≤◌, ◌+◌, ◌/◌, ◌&&◌, ap, sym, subst, arith, false, length, map, get_or, [], List, ℕ}
use Rattle.std.proofs.Common.{Some, slice_get}
use Rattle.std.specs.Option.{option_map_or}
use Rattle.std.proofs.lemmas.List.{length-map}
use Rattle.std.proofs.lemmas.Option.{slice_get_within}
use Rattle.khe_base.specs.Bits.{words_for}
use Rattle.khe_base.specs.ListedSets.{is_listed}
use Rattle.khe_instance.specs.ByTime.{AreApart, hears_in, is_listed_in, lists_in, words_in}
use Rattle.khe_instance.specs.WellMade.{IsMonitor}
use Rattle.khe_instance.specs.Watching.{is_at}
use Rattle.khe_instance.specs.declared.points.Monitor.{Monitor}
use Rattle.khe_instance.specs.declared.rules.Constraint.{Constraint}
use Rattle.khe_instance.proofs.ByTimeLemmas.{made_at, word_listed, words_apart}
use Rattle.khe_instance.proofs.ListingLemmas.{one_tabled}
use Rattle.khe_instance.proofs.MadeLemmas.{monitor_made, monitored}
use Rattle.khe_instance.proofs.by_time.monitors_by_time.Goals as goal

pub add_at_times-requires-clause-resource : goal.add_at_times-requires-clause-resource
add_at_times-requires-clause-resource c = λ r e.
    let p = c.args.inst.now in
    let m = c.monitor-monitor.result in
    subst (λ n. r.0 < n) (sym c.loop-number.invariant.rows_are)
    (monitored p m r (monitor_made p c.facts.ensures c.loop-number.number m c.monitor-monitor.ensures) e)

pub add_at_times-requires-clause-constraint : goal.add_at_times-requires-clause-constraint
add_at_times-requires-clause-constraint c =
    let p = c.args.inst.now in
    let m = c.monitor-monitor.result in
    let own = monitor_made p c.facts.ensures c.loop-number.number m c.monitor-monitor.ensures in
    let made : Constraint → List ℕ = λ x. words_in c.div_ceil-words.result x.rule in
    subst (λ n. m.constraint < n)
    (sym (ap length (c.as_slice.ensures ∙ c.in_ok-listed.ensures) ∙ length-map p.constraints made))
    (slice_get_within p.constraints m.constraint own.0 own.1)

pub add_at_times-requires-clause-words : goal.add_at_times-requires-clause-words
add_at_times-requires-clause-words c = λ r e.
    let p = c.args.inst.now in
    let m = c.monitor-monitor.result in
    let own = monitor_made p c.facts.ensures c.loop-number.number m c.monitor-monitor.ensures in
    let words = c.div_ceil-words.result in
    let made : Constraint → List ℕ = λ x. words_in words x.rule in
    let are : get_or c.as_slice.result.now m.constraint [] ≡ made own.0 =
    ap (λ xs. get_or xs m.constraint []) (c.as_slice.ensures ∙ c.in_ok-listed.ensures)
    ∙ made_at made p.constraints m.constraint own.0 own.1 in
    let width = c.loop-number.invariant.widths r.0
    (monitored p m r (monitor_made p c.facts.ensures c.loop-number.number m c.monitor-monitor.ensures) e) in
    let times = c.times.ensures in
    let all : words ≡ words_for (length p.times) = omega (arith, times) in
    let same : words ≡ length (get_or c.loop-number.table r.0 []) = all ∙ sym width in
    subst (λ n. AreApart (get_or c.as_slice.result.now m.constraint []) n) same
    (subst (λ ws. AreApart ws words) (sym are) (words_apart words own.0.rule))

pub loop-number-preserved : goal.loop-number-preserved
loop-number-preserved c =
    let p = c.args.inst.now in
    let m = c.monitor-monitor.result in
    let own = monitor_made p c.facts.ensures c.loop-number.number m c.monitor-monitor.ensures in
    let words = c.div_ceil-words.result in
    let made : Constraint → List ℕ = λ x. words_in words x.rule in
    let are : get_or c.as_slice.result.now m.constraint [] ≡ made own.0 =
    ap (λ xs. get_or xs m.constraint []) (c.as_slice.ensures ∙ c.in_ok-listed.ensures)
    ∙ made_at made p.constraints m.constraint own.0 own.1 in
    let times = c.times.ensures in
    let width : words ≡ words_for (length p.times) = omega (arith, times) in
    one_tabled (hears_in p) (length p.resources) (λ r. words_for (length p.times)) c.loop-number.number
    (λ a b. is_at m.point a && is_listed (get_or c.as_slice.result.now m.constraint []) b) c.loop-number.table _
    (λ a b l h. (λ j. is_at m.point a && is_listed (are j) b)
    ∙ ap (λ x. is_at m.point a && x) (word_listed words own.0.rule b (subst (λ n. b < n) (sym width) h)
    ∙ ap (λ o. option_map_or (λ (x : Constraint). lists_in x.rule b) o false) (sym own.1))
    ∙ ap (λ o. option_map_or (λ (x : Monitor). is_at x.point a && is_listed_in p.constraints x.constraint b) o false)
    (sym c.monitor-monitor.ensures))
    c.loop-number.invariant c.in_ok-add_at_times.ensures
