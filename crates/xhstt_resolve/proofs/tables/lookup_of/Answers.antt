-- The types and the three tables are those of the instance.
use Rattle.std.proofs.Common.{◌≡◌, ◌∙◌, Ok, subst, map, unwrap_or}
use Rattle.khe_base.proofs.ResultLemmas.{if_ok}
use Rattle.khe_base.specs.Names.{number_of}
use Rattle.xhstt_resolve.specs.Members.{members_in, groups_of_time, groups_of_resource, groups_of_event}
use Rattle.xhstt_resolve.specs.Tables.{IsTableOf}
use Rattle.xhstt_resolve.proofs.TablesLemmas.{AreTablesOf-made}
use Rattle.xhstt_resolve.proofs.tables.lookup_of.Goals as goal

pub returns-clause-lookup : goal.returns-clause-lookup
returns-clause-lookup c =
    let i = c.args.instance.now in
    let d = c.args.names.now in
    let t = c.in_ok-types.times in
    let r = c.in_ok-types.resources in
    let e = c.in_ok-types.events in
    let times = c.table_of-times in
    let resources = c.table_of-resources in
    let events = c.table_of-events in
    let tables = if_ok c.both-2.result _ (λ p. (times.result ≡ Ok p.0) × (c.both.result ≡ Ok p.1))
    c.in_ok-types.ensures.1 c.both-2.ensures in
    let others = if_ok c.both.result _ (λ p. (resources.result ≡ Ok p.0) × (events.result ≡ Ok p.1))
    tables.1 c.both.ensures in
    record {
      names = c.requires.names;
      types = if_ok _ _ (λ ts. ts ≡ map (λ x. unwrap_or (number_of x.resource_type.id d.resource_types) 0)
          c.as_slice.result.now) c.in_ok-types.ensures.0 c.types_of-types.ensures
          ∙ (λ j. map (λ x. unwrap_or (number_of x.resource_type.id (c.requires.names.resource_types j)) 0)
          (c.as_slice.ensures j));
      tables = AreTablesOf-made i d t r e c.requires.names
          (subst (λ xs. IsTableOf d.times (members_in d.time_groups groups_of_time xs) t) c.as_slice-2.ensures
          (if_ok _ _ (IsTableOf d.times (members_in d.time_groups groups_of_time c.as_slice-2.result.now))
          tables.0 c.table_of-times.ensures))
          (subst (λ xs. IsTableOf d.resources (members_in d.resource_groups groups_of_resource xs) r)
          c.as_slice-3.ensures
          (if_ok _ _ (IsTableOf d.resources (members_in d.resource_groups groups_of_resource c.as_slice-3.result.now))
          others.0 resources.ensures))
          (subst (λ xs. IsTableOf d.events (members_in d.event_groups groups_of_event xs) e) c.as_slice-4.ensures
          (if_ok _ _ (IsTableOf d.events (members_in d.event_groups groups_of_event c.as_slice-4.result.now)) others.1
          events.ensures));
      counts = c.requires.counts;
    }
