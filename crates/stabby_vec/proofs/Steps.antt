-- The names that the walk of a drop cites.
pub use Rattle.std.proofs.Common.{◌≡◌, List, [], ◌∷◌, ◌++◌, refl, ap, subst, ◌∙◌}
pub use Rattle.std.proofs.raw_atomic.Walks.{proved_at}
pub use Rattle.std.specs.declared.alloc.Allocator.{Ghosts}
pub use base.Logic.{id⊢, SProp}
pub use contract.Lifetimes.{Lfts}
pub use contract.Monad.{fact}
pub use contract.Running.{tables}
pub use denote.Builtin.{unit}
pub use denote.Exit.{yes, left}
pub use denote.Laws.{Is, shows}
pub use denote.Param.{param, bounded}
pub use denote.Param.Laws.{param_laws}
pub use denote.RattleType.{RattleType, flat, owns}
pub use denote.Signature.{plain, named_lft, types_at}
pub use denote.Steps.{nothing, heard, only, peeks}
pub use denote.Struct.Declared.{fields as fields_of}
pub use denote.Struct.Loose.{row_lawful}
pub use denote.Triple.Call.{calls_at}
pub use denote.Triple.Clauses.{lasts, at_exit, Lasts}
pub use denote.Triple.Entry.{alive}
pub use denote.Triple.Spec.{triple_of}
pub use denote.Triple.Table.{framed}
pub use denote.Triple.Walked.{Stay, Stays, Goes, walk_of, says, ends_at}
pub use mir.MapTy.{inst_fn}
pub use mir.Syntax.{Dict, a_type, dcons, dnil}
pub use mir.Val.{Val, vunit, vstruct, of_list, vcons, vnil}
pub use prog.Wp.{WpFn}
pub use types.ByLocal.{alloc_all, pass_all, free_all, look_at, get, get_in, sets, lands_as}
pub use types.Kit.{‵, raw, ◌⊛◌, some, later, prop, ◌$◌, ◌∵◌, !, qed, done, move, keep, use1, use2, split, join, fsplit, fjoin, fpick, feq_i, feq_l, pick, await, rewrite, regoal, suffices, frame}
pub use types.Logic.{sem}
pub use types.Part.{whole, sub}
pub use types.Run.{enter, of_opd, unit_lit, stop, fld, no_more, and_then, returns}
