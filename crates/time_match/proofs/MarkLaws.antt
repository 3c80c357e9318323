-- The only mark, edits inside it, and the way out, over plain worlds.
use Rattle.std.proofs.Common.{◌≡◌, ◌+◌, ◌≤◌, List, [], ◌∷◌, ◌++◌, ap, ◌∙◌, arith}
use Rattle.std.proofs.lemmas.List.Sums.{sum_by-cons}
use Rattle.khe_told.specs.declared.changes.Change.{Change}
use Rattle.khe_engine.specs.Worlds.{Saved, World, closed, fresh, grown, kept}
use Rattle.time_match.specs.Marks.{IsBack, IsInside}

kept_more : (x : Saved) (xs : List Saved) → kept (x ∷ xs) ≡ x.records + kept xs
kept_more x xs = sum_by-cons (λ (x : Saved). x.records) x xs

-- an edit has one record at most
kept_grown : (cs : List Change) (xs : List Saved) → kept (grown cs xs) ≤ kept xs + 1
kept_grown cs [] = omega arith
kept_grown cs (x ∷ xs) =
    let a = kept_more x xs in
    let b = kept_more (record { state = x.state; trail = x.trail ++ cs; records = x.records + 1 }) xs in
    omega (arith, a, b)

pub spare_left : (cs : List Change) (v u : World) → v.spare + kept v.saved ≤ u.spare + kept u.saved
    → u.saved ≡ grown cs v.saved → v.spare ≤ u.spare + 1
spare_left cs v u h e = let a = ap kept e in let b = kept_grown cs v.saved in omega (arith, h, a, b)

pub begun : (w v : World) → w.saved ≡ [] → v.parts ≡ w.parts → v.spare ≡ w.spare
    → v.saved ≡ fresh w.state ∷ w.saved → IsInside w v
begun w v none p s h = record {
  parts = p;
  trail = [];
  records = 0;
  saved = h ∙ ap (λ xs. fresh w.state ∷ xs) none;
  room = omega (arith, s);
}

pub made : (cs : List Change) (w v u : World) → IsInside w v → u.parts ≡ v.parts
    → v.spare + kept v.saved ≤ u.spare + kept u.saved → u.saved ≡ grown cs v.saved → IsInside w u
made cs w v u h p r e =
    let a = spare_left cs v u r e in
    let b = h.room in
    record {
      parts = p ∙ h.parts;
      trail = h.trail ++ cs;
      records = h.records + 1;
      saved = e ∙ ap (grown cs) h.saved;
      room = omega (arith, a, b);
    }

-- back at the mark, which is closed
pub back : (w v u x : World) → IsInside w v → u.parts ≡ v.parts
    → ((y : Saved) (ys : List Saved) → v.saved ≡ y ∷ ys → (u.state ≡ y.state) × (u.saved ≡ fresh y.state ∷ ys))
    → v.spare + kept v.saved ≤ u.spare + kept u.saved → x.parts ≡ u.parts → x.state ≡ u.state
    → x.saved ≡ closed u.saved → u.spare + kept u.saved ≤ x.spare + kept x.saved → IsBack w x
back w v u x h up undone ur xp xs ended xr =
    let g = undone _ _ h.saved in
    let none : x.saved ≡ [] = ended ∙ ap closed g.1 in
    let a = ap kept h.saved ∙ kept_more (record { state = w.state; trail = h.trail; records = h.records }) [] in
    let z = ap kept none in
    let r = h.room in
    record {
      parts = xp ∙ up ∙ h.parts;
      state = xs ∙ g.0;
      saved = none;
      room = omega (arith, a, z, r, ur, xr);
    }

pub ended : (w v u : World) → IsInside w v → u.saved ≡ closed v.saved → u.saved ≡ []
ended w v u h e = e ∙ ap closed h.saved
