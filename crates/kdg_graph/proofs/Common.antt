-- The names that most proofs cite, passed on from one place. Declares nothing.
pub use Rattle.std.specs.Cmp.{IsStrictWeakOrder, IsTotalOrder, tied_itself}
pub use Rattle.std.specs.List.{AllByRecursion, list_any}
pub use Rattle.std.specs.Option.{option_cmp, option_eq}
pub use Rattle.std.specs.Ordering.{ordering_reverse, ordering_then}
pub use Rattle.std.specs.Vec.Iter.{drain_items, drain_len, into_iter_items, into_iter_len}
pub use Rattle.std.proofs.Math.Seq.{take-length}
pub use Rattle.std.proofs.lemmas.Bool.{and_parts, cases_eq, cases_lt, cond_both, false_from_ne_true, false≢true, or_cases, or_left, or_parts, or_right}
pub use Rattle.std.proofs.lemmas.Grind.{flat_map-append, get_or-set_at}
pub use Rattle.std.proofs.lemmas.List.{drop_more, get_or_default, length-map, map-append, nil_from_length, take_more}
pub use Rattle.std.proofs.lemmas.List.Elements.{All-from_recursion, Contains-get_or, filter-append, recursion_from_All}
pub use Rattle.std.proofs.lemmas.List.Folds.{list_any-append}
pub use Rattle.std.proofs.lemmas.List.Sorted.{All-permutation, IsPermutation-map, list_any-IsPermutation, sorted_far}
pub use Rattle.std.proofs.lemmas.List.Sums.{count_by-le-length, length-filter, sum_by-cons}
pub use Rattle.std.proofs.lemmas.Option.{get_or_from_slice_get, slice_get-map, slice_get_cases, slice_get_past, slice_get_read, slice_get_within}
pub use Rattle.slab.proofs.SlabLemmas.{Contains-entries, ContainsKey-within, Updates-set, Updates-with_value}
pub use Rattle.slab.specs.Slab.{ContainsKey, Slab, Updates, entries, entries_from, get, slab_len, values, with_value}
pub use Rattle.plain_laws.specs.Members.{none, here, there, cases, all_at, all_from, in_filter, from_filter, in_map, from_map, none_passes, none_any}
pub use Rattle.rw_sets.specs.AccessLaws.{absent_beyond, access_first, access_other, ascending_first, ascending_rest, beyond_lower}
pub use Rattle.rw_sets.specs.Accesses.{Accesses, AllBeyond, Conflicts, IsAscending as IsAscendingSet, access_at, allows_write, clash, conflicts_with, excludes, is_write, same_accesses, writes}
pub use Rattle.rw_sets.specs.Laws.{ConflictsAreDecided, ConflictsAreMutual}
pub use Rattle.rw_sets.specs.declared.access.Access.{Access}
pub use Rattle.rw_sets.specs.declared.access.Access.TheVariants.{Read, Write}
pub use Rattle.task_order.specs.Key.{IsExactOrder, key_cmp, key_cmp_total}
pub use Rattle.task_order.specs.Laws.{LowerBeginningsComeFirst, PutsKeepAscending, WithoutMakesNew}
pub use Rattle.task_order.specs.TaskList.{IsAscending, IsNewKey, has_key, put_all, put_in, without as tasks_without_key}
pub use Rattle.task_order.specs.declared.key.Key.{Key}
pub use Rattle.task_order.specs.declared.task.Task.{Task}
pub use Rattle.kdg_graph.specs.Edges.{is_blocked, is_source, laters_of, sources_of, writers_of}
pub use Rattle.kdg_graph.specs.Exchange.{AreFiledWith, is_same, lacking, midway}
pub use Rattle.kdg_graph.specs.Fronts.{BlocksNoneAlone, fronts_after, stoppers}
pub use Rattle.kdg_graph.specs.Kept.{IsOrder, IsOrderShown}
pub use Rattle.kdg_graph.specs.Lanes.{AreLater, AreStored, IsBetween, IsEnded, IsFound, IsGap, IsLane, IsRank, IsRankPast, IsSearched, cmp_at, cmp_if, cmp_in_if, is_id, is_id_at}
pub use Rattle.kdg_graph.specs.Laws.{IdsFindNodes, IdsFindTheirNodes, KeysFindNodes, LatersAreInConflict, LatersAreNodes, LatersMayChange, LeastIsEarliest, NewKeysFindNone, NodesHaveIds, NodesHaveKeys, NoneIsLeastOfNone, PutsAddOneNode, RewritesAddNoOther, RewritesAddNodes, RewritesEndNodes, RewritesKeepNodes, RewritesReplaceTasks, RunningNodesAreNoSources, SourcesAreNodes, SourcesAreUnblocked, StartsMarkOneNode, WritersAreOfTasks}
pub use Rattle.kdg_graph.specs.Locations.{AreFiled, HasMoreFor, HasRoomFor, HasTakenFor, HaveNoLess, HaveSameLanes, IsLaneAmong, Location, clashes_at, clashing_at, front_after, ids_for, is_blocked_at, is_first_before, lane_of, times_named, put_if, reserved_in, reserved_of, room_at, room_in, rooms_of, up_to_writer, without_if, writers_in}
pub use Rattle.kdg_graph.specs.Node.{Node, new_node}
pub use Rattle.kdg_graph.specs.NodeStock.{NodeShelf, NodeStock, ids_left, places_in}
pub use Rattle.kdg_graph.specs.Nodes.{HasNode, HaveOwnIds, HaveSets, IsGraph, earlier_than, ids_of, is_at, later_than, least_of, node_at, node_with_key, put_node, set_at, started, task_at, tasks_of}
pub use Rattle.kdg_graph.specs.Rewrite.{AreAdded, AreOfOwnNodes, HaveNewKeys, changed_sets, fresh_nodes, fresh_sets, fresh_tasks, put_nodes, set_after, with_sets, without}
pub use Rattle.kdg_graph.specs.Selected.{AreForgotten, AreInTurn, AreLeft, AreMarked, AreRefreshed, AreRetested, AreSelected, AreSome, HasGone, HaveMarks, IsArrival, IsInOrder, IsLeft, IsNext, MarkedIds, TellsItsKey, arrival_cmp, arrived, forgotten, has_number, ids_in, is_among, is_behind, is_later, is_left, is_recent, is_settled, is_unblocked, key_at, left_in, listed_in, not_running, recent_among, recent_in, refreshed, retested, runs, settled_among, settled_from, settled_in, unblocked_of}
pub use Rattle.kdg_graph.specs.Stored.{AreKept, IsStored, in_order, nodes_of}
pub use Rattle.kdg_graph.specs.declared.arrival.Arrival.{Arrival}
pub use Rattle.kdg_graph.specs.declared.change.Fresh.{Fresh}
pub use Rattle.kdg_graph.specs.declared.change.SetChange.{SetChange}
pub use Rattle.kdg_graph.specs.declared.lane.Lane.{Lane}
pub use Rattle.kdg_graph.specs.declared.node_id.NodeId.{NodeId}
pub use Rattle.kdg_graph.specs.declared.source_lane.Standing.{Standing}
pub use Rattle.kdg_graph.specs.declared.source_lane.Standing.TheVariants.{Absent, Recent, Settled}
pub use Rattle.kdg_graph.proofs.Members.{any-map, any_same, filter-map, find_none, from_find, none_found}
