-- One line more was obeyed.
use Rattle.std.proofs.Common.{◌≡◌, ℕ, ◌+◌, List, [], ◌∷◌, ◌++◌, length, take, refl, sym, ◌∙◌, ap, subst, arith, Option, None, Some, append_assoc, append-nil}
use Rattle.std.specs.List.{AllZip}
use Rattle.stabby_tables.proofs.Zips.{zip_push}
use Rattle.stabby_intern.specs.Devices.{Took}
use Rattle.stabby_intern.specs.Runs.{Device}
use Rattle.stabby_intern.proofs.Moved.{took_more, took_nothing}
use Rattle.index_log.specs.Lines.{IsLineOf, IsNoCommand}
use Rattle.index_log.specs.Sessions.{State, after, after_all, Prints, PrintsAll}
use Rattle.index_log.specs.Runs.{AllObeyed, SomeObeyed, BadObeyed, PartObeyed, ObeyedTo, LineObeyed, LinePart, LineEnds, Ends, Untouched}
use Rattle.index_log.specs.declared.status.Status.{Status}
use Rattle.index_log.specs.declared.status.Status.TheVariants.{Ok, Memory, Usage, BadLine, TooLong, ReadFault, WriteFault}
use Rattle.index_log.specs.declared.command.Command.{Command}

abbrev pub device : Option (List ℕ) → Option (List ℕ) → ℕ → ℕ → Device
device told told' faults faults' = record { told = told; told_after = told'; faults = faults; faults_after = faults' }

after_push : (s : State) (cs : List Command) (c : Command) → after_all s (cs ++ c ∷ []) ≡ after (after_all s cs) c
after_push s [] c = refl
after_push s (d ∷ cs) c = after_push (after s d) cs c

prints_push : (s : State) (cs : List Command) (c : Command) (p q : List ℕ) → PrintsAll s cs p → Prints (after_all s cs) c q → PrintsAll s (cs ++ c ∷ []) (p ++ q)
prints_push s [] c p q is one = (q, [], one, refl, ap (λ (l : List ℕ). l ++ q) is ∙ sym (append-nil q))
prints_push s (d ∷ cs) c p q (first, rest, here, there, split) one =
    (first, rest ++ q, here, prints_push (after s d) cs c rest q there one, ap (λ (l : List ℕ). l ++ q) split ∙ append_assoc first rest q)

pub none_yet : (s : State) (a : Option (List ℕ)) (f : ℕ) → ObeyedTo s s [] (device a a f f)
none_yet s a f = record { commands = []; printed = []; are = tt; prints = refl; state = refl; taken = took_nothing a; no_write_failed = refl }

pub line_more : (start s t : State) (done : List (List ℕ)) (line : List ℕ) (a b c : Option (List ℕ)) (f g h : ℕ) → ObeyedTo start s done (device a b f g) → LineObeyed s t line (device b c g h) → ObeyedTo start t (done ++ line ∷ []) (device a c f h)
line_more start s t done line a b c f g h o l =
    let cs = ObeyedTo.commands o in
    let last = LineObeyed.command l in
    record {
      commands = cs ++ last ∷ [];
      printed = ObeyedTo.printed o ++ LineObeyed.printed l;
      are = zip_push IsLineOf done cs line last (ObeyedTo.are o) (LineObeyed.is l);
      prints = prints_push start cs last (ObeyedTo.printed o) (LineObeyed.printed l) (ObeyedTo.prints o) (subst (λ (u : State). Prints u last (LineObeyed.printed l)) (ObeyedTo.state o) (LineObeyed.prints l));
      state = LineObeyed.state l ∙ (ap (λ (u : State). after u last) (ObeyedTo.state o) ∙ sym (after_push start cs last));
      taken = took_more a b c (ObeyedTo.printed o) (LineObeyed.printed l) (ObeyedTo.taken o) (LineObeyed.taken l);
      no_write_failed = LineObeyed.no_write_failed l ∙ ObeyedTo.no_write_failed o;
    }

pub all_done : (start s : State) (lines done : List (List ℕ)) (out : Device) → lines ≡ done ++ [] → ObeyedTo start s done out → AllObeyed start lines out
all_done start s lines done out split o = record {
  commands = ObeyedTo.commands o;
  printed = ObeyedTo.printed o;
  are = subst (λ (l : List (List ℕ)). AllZip IsLineOf l (ObeyedTo.commands o)) (sym (split ∙ append-nil done)) (ObeyedTo.are o);
  prints = ObeyedTo.prints o;
  taken = ObeyedTo.taken o;
  no_write_failed = ObeyedTo.no_write_failed o;
}

obeyed_so_far : (start s : State) (done : List (List ℕ)) (a b c : Option (List ℕ)) (f g h : ℕ) → ObeyedTo start s done (device a b f g) → Untouched (device b c g h) → AllObeyed start done (device a c f h)
obeyed_so_far start s done a b c f g h o same = record {
  commands = ObeyedTo.commands o;
  printed = ObeyedTo.printed o;
  are = ObeyedTo.are o;
  prints = ObeyedTo.prints o;
  taken = subst (λ (d : Option (List ℕ)). Took a d (ObeyedTo.printed o)) (sym same.0) (ObeyedTo.taken o);
  no_write_failed = same.1 ∙ ObeyedTo.no_write_failed o;
}

pub some_done : (start s : State) (lines done back : List (List ℕ)) (a b c : Option (List ℕ)) (f g h : ℕ) → lines ≡ done ++ back → ObeyedTo start s done (device a b f g) → Untouched (device b c g h) → SomeObeyed start lines (device a c f h)
some_done start s lines done back a b c f g h split o same = record { front = done; back = back; split = split; obeyed = obeyed_so_far start s done a b c f g h o same }

pub bad_line : (start s : State) (lines done back : List (List ℕ)) (line : List ℕ) (a b c : Option (List ℕ)) (f g h k : ℕ) → lines ≡ done ++ line ∷ back → k ≡ length done + 1 → ObeyedTo start s done (device a b f g) → IsNoCommand line
    → Untouched (device b c g h) → BadObeyed start lines (device a c f h) k
bad_line start s lines done back line a b c f g h k split place o bad same =
    record { front = done; line = line; back = back; split = split; place = place; obeyed = obeyed_so_far start s done a b c f g h o same; bad = bad }

pub part_done : (start s : State) (lines done back : List (List ℕ)) (line : List ℕ) (a b c : Option (List ℕ)) (f g h : ℕ) → lines ≡ done ++ line ∷ back → ObeyedTo start s done (device a b f g) → LinePart s line (device b c g h) → PartObeyed start lines (device a c f h)
part_done start s lines done back line a b c f g h split o l = record {
  front = done;
  line = line;
  back = back;
  split = split;
  commands = ObeyedTo.commands o;
  last = LinePart.command l;
  printed = ObeyedTo.printed o;
  last_printed = LinePart.printed l;
  are = ObeyedTo.are o;
  is = LinePart.is l;
  prints = ObeyedTo.prints o;
  last_prints = subst (λ (u : State). Prints u (LinePart.command l) (LinePart.printed l)) (ObeyedTo.state o) (LinePart.prints l);
  written = LinePart.written l;
  proper = LinePart.proper l;
  taken = took_more a b c (ObeyedTo.printed o) (take (LinePart.written l) (LinePart.printed l)) (ObeyedTo.taken o) (LinePart.taken l);
  failed = rw (sym (ObeyedTo.no_write_failed o)) (LinePart.failed l);
}

-- what a status of a line that wasn't obeyed says of all lines
pub ends_at : (start s t : State) (lines done back : List (List ℕ)) (line : List ℕ) (a b c : Option (List ℕ)) (f g h k : ℕ) (status : Status) → lines ≡ done ++ line ∷ back → k ≡ length done + 1 → ObeyedTo start s done (device a b f g) → (status ≡ Ok → ⊥)
    → LineEnds s t line (device b c g h) k status → Ends start lines (device a c f h) status
ends_at start s t lines done back line a b c f g h k Ok split place o not ends = absurd (not refl)
ends_at start s t lines done back line a b c f g h k Memory split place o not ends = some_done start s lines done (line ∷ back) a b c f g h split o ends
ends_at start s t lines done back line a b c f g h k (BadLine found) split place o not ends = bad_line start s lines done back line a b c f g h found split (ends.0 ∙ place) o ends.1 ends.2
ends_at start s t lines done back line a b c f g h k WriteFault split place o not ends = part_done start s lines done back line a b c f g h split o ends
ends_at start s t lines done back line a b c f g h k Usage split place o not ends = absurd ends
ends_at start s t lines done back line a b c f g h k TooLong split place o not ends = absurd ends
ends_at start s t lines done back line a b c f g h k ReadFault split place o not ends = absurd ends
