use Rattle.std.proofs.Common.{◌+◌, ◌*◌, ◌-◌, arith, subst, sym}
use Rattle.khe_solution.specs.FreeBits.{AreClear, IsFirst}
use Rattle.khe_solution.specs.TaskRows.{AreOut, IsFirstIn}
use Rattle.khe_solution.proofs.SpotLaws.{in_row, out_row, spot_fits}
use Rattle.khe_solution.proofs.tasks.first_in_row.Goals as goal

pub overflow_add-start : goal.overflow_add-start
overflow_add-start c =
    let t = c.args.rows.now in
    let e = c.spot_of-start.ensures in
    let a = spot_fits t.stride c.row_of-row.result c.args.from c.row_of-row.ensures.small c.requires.rows.few
    c.requires.from in
    omega (arith, a, e)

pub returns-in_default : goal.returns-in_default
returns-in_default c =
    let t = c.args.rows.now in
    let r = c.row_of-row.result in
    subst (λ q. AreOut t q c.args.from (64 * t.stride)) c.row_of-row.ensures.is
    (out_row t r c.args.from (subst (λ n. AreClear t.words.items (n + c.args.from) (64 * ((r + 1) * t.stride)))
    c.spot_of-start.ensures
    (subst (λ ws. AreClear ws (c.spot_of-start.result + c.args.from) (64 * ((r + 1) * t.stride))) c.deref.ensures.value
    c.in_default.ensures)))

pub returns : goal.returns
returns c =
    let t = c.args.rows.now in
    let r = c.row_of-row.result in
    let n = c.in-Some.found in
    let first = subst (λ k. IsFirst t.words.items (k + c.args.from) n) c.spot_of-start.ensures
    (subst (λ ws. IsFirst ws (c.spot_of-start.result + c.args.from) n) c.deref.ensures.value c.in-Some.ensures.0) in
    subst (λ q. IsFirstIn t q c.args.from (n - c.spot_of-start.result)) c.row_of-row.ensures.is
    (subst (λ k. IsFirstIn t r c.args.from (n - k)) (sym c.spot_of-start.ensures)
    (in_row t r c.args.from n first c.in-Some.ensures.1))
