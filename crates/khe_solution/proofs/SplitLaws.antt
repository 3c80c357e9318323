-- What a Split would make of slots leads to the slots after it: the meet gets shorter first, and then the event's
-- lowest free slot gets the rest.
use Rattle.std.proofs.Common.{ℕ, ◌≡◌, ◌+◌, ◌-◌, ◌≤◌, ◌∙◌, Option, Some, None, List, length, set, refl, sym, ap, subst, arith}
use Rattle.std.specs.Prelude.{IfSome, replicate}
use Rattle.std.proofs.lemmas.List.{set-get_or}
use Rattle.std.proofs.lemmas.List.Elements.{All-get_or}
use Rattle.khe_base.specs.declared.numbers.MeetId.{MeetId}
use Rattle.khe_base.specs.declared.numbers.TimeId.{TimeId}
use Rattle.khe_instance.specs.declared.parts.Parts.{Parts}
use Rattle.khe_told.specs.Effects.{IsCut}
use Rattle.khe_told.specs.Fits.{AreTold, IsSlot}
use Rattle.khe_told.specs.Slots.{length_of, no_slot, slot_at, start_of}
use Rattle.khe_told.specs.Valid.{AreValid}
use Rattle.khe_told.specs.declared.edits.Edit.TheVariants.{Split}
use Rattle.khe_told.specs.declared.slots.Slot.{Slot}
use Rattle.khe_told.specs.declared.slots.Span.{Span}
use Rattle.khe_solution.specs.Editing.{cut_at, edited, with_meet}
use Rattle.khe_solution.specs.Effects.{LeadTo, cutting, receiving, shortening}
use Rattle.khe_solution.specs.Reading.{free_slot}
use Rattle.khe_solution.specs.Refusing.{refusal}
use Rattle.khe_solution.proofs.Basics.{set_comm}
use Rattle.khe_solution.proofs.CutJoin.{ArePair, all_slot, self_below, told_pair}
use Rattle.khe_solution.proofs.EditingLaws.{span_of}
use Rattle.khe_solution.proofs.EffectLaws.{edited_told, lead_two}
use Rattle.khe_solution.proofs.MeetEdits.{MayCut, may_cut, new_slot}

-- the meet of an accepted Split, and the slot that gets the rest
pub record IsSplit (p : Parts) (s : List Slot) (m : MeetId) (cut : ℕ) (n : MeetId) : Type 0 where
  pub may : MayCut p s m cut
  pub pair : ArePair p s m.0 n.0
  pub free : (slot_at s n.0).span ≡ None

pub is_split : (p : Parts) (s : List Slot) (m : MeetId) (cut : ℕ) (n : MeetId) → AreTold p s
    → refusal p s (Split m cut) ≡ None → n.0 ≡ free_slot s (slot_at s m.0).event.0 → IsSplit p s m cut n
unfolding refusal
is_split p s m cut n told h lowest =
    let c = may_cut p s m cut h in
    let a = c.some in
    let b = c.less in
    let f = new_slot p s m told c.live (omega (arith, a, b)) in
    record {
      may = c;
      pair = subst (ArePair p s m.0) (sym lowest) f.0;
      free = ap (λ (k : ℕ). (slot_at s k).span) lowest ∙ f.1;
    }

-- it is a cut
pub splits_cut : (p : Parts) (s : List Slot) (m : MeetId) (cut : ℕ) (n : MeetId) → IsSplit p s m cut n
    → IsCut (shortening s m cut) (receiving s m cut n)
splits_cut p s m cut n h =
    let x = slot_at s m.0 in
    let less = h.may.less in
    let sum : length_of x ≡ cut + (length_of x - cut) = omega (arith, less) in
    record {
      cut = cut;
      rest = length_of x - cut;
      start = start_of x;
      whole = span_of x.span (start_of x) h.may.live refl
          ∙ ap (λ (d : ℕ). Some (record { duration = d; start = start_of x })) sum;
      first = refl;
      free = h.free;
      second = refl;
      event = λ i. record { 0 = h.pair.event i };
      given = refl;
      same = refl;
    }

shorter_ends : (t : Option TimeId) (c d n : ℕ) → IfSome t (λ q. q.0 + d ≤ n) → c ≤ d → IfSome t (λ q. q.0 + c ≤ n)
shorter_ends None c d n h l = tt
shorter_ends (Some t) c d n h l = omega (arith, h, l)

-- where the meet is shorter and the other slot free still, the slots are told
shorter_told : (p : Parts) (s : List Slot) (m : MeetId) (cut : ℕ) (n : MeetId) → IsSplit p s m cut n
    → AreTold p (set s m.0 (shortening s m cut).after)
shorter_told p s m cut n h =
    let x = slot_at s m.0 in
    let z = slot_at s n.0 in
    let w = h.pair in
    let t = start_of x in
    let less = h.may.less in
    let ix : IsSlot p x = All-get_or (IsSlot p) s m.0 no_slot w.first w.told.slots in
    let iz : IsSlot p z = All-get_or (IsSlot p) s n.0 no_slot w.second w.told.slots in
    let ends : IfSome t (λ q. q.0 + length_of x ≤ length p.times) =
    subst (λ o. IfSome o (λ (y : Span). IfSome y.start (λ q. q.0 + y.duration ≤ length p.times)))
    (span_of x.span t h.may.live refl) ix.ends in
    let ends_too = shorter_ends t cut (length_of x) (length p.times) ends (omega (arith, less)) in
    let u = with_meet x cut t x.given in
    subst (λ (q : List Slot). AreTold p (set q m.0 u)) (set-get_or s n.0 no_slot)
    (told_pair p s m.0 n.0 (Some (record { duration = cut; start = t })) z.span x.given z.given w refl refl
    (all_slot p x x cut t x.given ix refl h.may.some ends_too (self_below x.given)) iz (omega (arith, less)))

pub split_leads : (p : Parts) (s : List Slot) (m : MeetId) (cut : ℕ) (n : MeetId) → AreValid p s
    → refusal p s (Split m cut) ≡ None → n.0 ≡ free_slot s (slot_at s m.0).event.0 → (slot_at s m.0).meet ≡ m
    → (slot_at s n.0).meet ≡ n → LeadTo p s (cutting s m cut n) (edited s (Split m cut))
unfolding edited
split_leads p s m cut n v h lowest em en =
    let x = slot_at s m.0 in
    let q = is_split p s m cut n v.told h lowest in
    let w = q.pair in
    let u = (shortening s m cut).after in
    let y = (receiving s m cut n).after in
    let swap : set (set s m.0 u) n.0 y ≡ cut_at s m.0 cut n.0 = set_comm s m.0 n.0 u y w.apart in
    let last : AreTold p (cut_at s m.0 cut n.0) = subst (λ (k : ℕ). AreTold p (cut_at s m.0 cut k)) (sym lowest)
    (edited_told p s (Split m cut) v refl h) in
    subst (LeadTo p s (cutting s m cut n)) (swap ∙ ap (cut_at s m.0 cut) lowest)
    (lead_two p s m.0 n.0 u y v.told w.first w.second w.apart (ap (λ (k : MeetId). k.0) em)
    (ap (λ (k : MeetId). k.0) en) refl
    (λ i. record (slot_at s n.0) { span = None; given = replicate (sym w.places i) None }) (shorter_told p s m cut n q)
    (subst (AreTold p) (sym swap) last))
