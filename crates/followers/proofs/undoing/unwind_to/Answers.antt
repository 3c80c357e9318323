use Rattle.std.proofs.Common.{◌≡◌, ◌-◌, drop, length, subst, ◌∙◌, arith}
use Rattle.std.proofs.lemmas.List.{length-drop}
use Rattle.followers.specs.Records.{saved_of}
use Rattle.followers.proofs.UndoLaws.{last_saved, one_fall}
use Rattle.followers.proofs.undoing.unwind_to.Goals as goal

pub loop-ties-preserved : goal.loop-ties-preserved
loop-ties-preserved c =
    let v = c.loop-ties.invariant in
    let f = c.fall.ensures in
    record {
      long = f.long ∙ v.long;
      within = f.within;
      least = let m = f.marks in let t = c.loop-ties-test.true in let n = c.marks.ensures in omega (arith, m, t, n);
      most = let m = f.marks in let w = v.most in omega (arith, m, w);
      saved = λ states e. one_fall c.args.ties.now c.loop-ties.ties c.fall.new.ties states c.args.journal.now.since
          c.loop-ties.journal.since c.fall.new.journal.since e f.marks v.most f.saved (v.saved states e);
    }

pub returns-clause-saved : goal.returns-clause-saved
returns-clause-saved c = λ states e.
    let v = c.loop-ties.invariant in
    let u = c.unwind.ensures in
    let n = length c.args.journal.now.since in
    let since = c.loop-ties.journal.since in
    let q : length since ≡ c.args.k =
    let a = v.least in let t = c.loop-ties-test.false in let m = c.marks.ensures in omega (arith, a, t, m) in
    let m : length (drop (n - c.args.k) states) ≡ length since =
    let x = length-drop (n - c.args.k) states in let w = c.requires.most in omega (arith, x, e, q, w) in
    last_saved c.loop-ties.ties c.unwind.new.ties (drop (n - c.args.k) states) since c.unwind.new.journal.since m u.ties
    u.inner u.outer u.marks
    ∙ subst (λ x. saved_of c.loop-ties.ties (drop (n - x) states) since
    ≡ drop (n - x) (saved_of c.args.ties.now states c.args.journal.now.since)) q (v.saved states e)
