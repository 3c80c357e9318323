use Rattle.std.proofs.Common.{◌≡◌, ◌/◌, cond, nat_eq, ap, ◌∙◌, arith, refl}
use Rattle.khe_base.specs.Bits.{is_set}
use Rattle.khe_solution.specs.TaskRows.{row_of, spot_of}
use Rattle.khe_solution.specs.declared.tasks.TaskRows.{TaskRows}
use Rattle.khe_solution.proofs.SpotLaws.{put_is, put_room, put_there, row_below}
use Rattle.khe_solution.proofs.tasks.put.Goals as goal

pub put_bit-requires-clause-there : goal.put_bit-requires-clause-there
put_bit-requires-clause-there c =
    let t = c.args.rows.now in
    let e : c.spot_of-spot.result ≡ spot_of t.stride (row_of c.args.given) c.args.number =
    c.spot_of-spot.ensures ∙ ap (λ r. spot_of t.stride r c.args.number) c.row_of-row.ensures.is in
    let k = ap (λ n. n / 64) e in
    let a = put_there t (row_of c.args.given) c.args.number c.requires.rows (row_below c.args.given)
    c.requires.number in
    omega (arith, k, a)

pub put_bit-requires-clause-room : goal.put_bit-requires-clause-room
put_bit-requires-clause-room c =
    let t = c.args.rows.now in
    let e : c.spot_of-spot.result ≡ spot_of t.stride (row_of c.args.given) c.args.number =
    c.spot_of-spot.ensures ∙ ap (λ r. spot_of t.stride r c.args.number) c.row_of-row.ensures.is in
    let k = ap (λ n. n / 64 / 64) e in
    let a = put_room t (row_of c.args.given) c.args.number c.requires.rows (row_below c.args.given) c.requires.number in
    omega (arith, k, a)

pub returns-clause-put : goal.returns-clause-put
returns-clause-put c =
    let t = c.args.rows.now in
    let u : TaskRows = record { words = c.put_bit.new.words; marks = c.put_bit.new.marks; stride = t.stride } in
    let e : c.spot_of-spot.result ≡ spot_of t.stride (row_of c.args.given) c.args.number =
    c.spot_of-spot.ensures ∙ ap (λ r. spot_of t.stride r c.args.number) c.row_of-row.ensures.is in
    put_is t u (row_of c.args.given) c.args.number c.args.is_in c.requires.number refl
    (λ m. c.put_bit.ensures.bits m ∙ ap (λ k. cond (nat_eq m k) c.args.is_in (is_set t.words.items m)) e)
