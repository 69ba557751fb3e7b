-- Worked traces, and what each prints.
use Rattle.std.specs.Prelude.{ℕ, List, ◌++◌, codes}
use Rattle.allocinfo.specs.Text.{header_text}

-- the first lines of most
abbrev pub head : List ℕ
head = codes "memprof-trace 1.0\nkernel\ntag mm/slub.c 1 slab\ntag mm/a.c 10 fa\ntag mm/b.c 20 fb\n"

-- an object is counted with its class's bytes, and its slab under the slab allocator's own tag
unfoldable pub slab_and_object : List ℕ
slab_and_object =
    head
    ++ codes "round\non 0 hook kernel:1\non 0 kmalloc 1 100\nprint\n"

unfoldable pub slab_and_object_text : List ℕ
slab_and_object_text =
    header_text ++ codes "        4096        1 mm/slub.c:1 func:slab \n         128        1 mm/a.c:10 func:fa \n"
    ++ codes "           0        0 mm/b.c:20 func:fb \n"
    ++ codes "done: rounds 1 ops 2 failed 0 uncounted 0 live 2 kept 0\n"

-- the same, with the one row that has most
unfoldable pub top_one_text : List ℕ
top_one_text =
    header_text
    ++ codes "        4096        1 mm/slub.c:1 func:slab \n"
    ++ codes "done: rounds 1 ops 2 failed 0 uncounted 0 live 2 kept 0\n"

-- a block that another CPU frees is its own CPU's again only after the round
unfoldable pub storage_home_at_barrier : List ℕ
storage_home_at_barrier =
    codes "memprof-trace 1.0\ncpus 2\nframes 4\nkernel\ntag mm/slub.c 1 slab\ntag mm/a.c 10 fa\n"
    ++ codes "round\non 0 hook kernel:1\non 0 page 1 2\n"
    ++ codes "round\non 1 free 1\non 0 page 2 2\n"
    ++ codes "round\non 0 page 3 2\nprint\n"

unfoldable pub storage_home_at_barrier_text : List ℕ
storage_home_at_barrier_text =
    header_text
    ++ codes "           0        0 mm/slub.c:1 func:slab \n       16384        1 mm/a.c:10 func:fa \n"
    ++ codes "done: rounds 3 ops 5 failed 1 uncounted 0 live 1 kept 0\n"

-- without vectors an object has no cell, and only its slab is counted
unfoldable pub no_vectors : List ℕ
no_vectors =
    codes "memprof-trace 1.0\nvectors 0\nkernel\ntag mm/slub.c 1 slab\ntag mm/a.c 10 fa\ntag mm/b.c 20 fb\n"
    ++ codes "round\non 0 hook kernel:1\non 0 kmalloc 1 100\nprint\n"
    ++ codes "round\non 0 free 1\nprint\n"

unfoldable pub no_vectors_text : List ℕ
no_vectors_text =
    header_text ++ codes "        4096        1 mm/slub.c:1 func:slab \n           0        0 mm/a.c:10 func:fa \n"
    ++ codes "           0        0 mm/b.c:20 func:fb \n"
    ++ header_text ++ codes "           0        0 mm/slub.c:1 func:slab \n           0        0 mm/a.c:10 func:fa \n"
    ++ codes "           0        0 mm/b.c:20 func:fb \n"
    ++ codes "done: rounds 2 ops 3 failed 0 uncounted 1 live 0 kept 0\n"

-- an unloaded module whose reference lives keeps its range, and there is no room for another
unfoldable pub kept_range_bars_load : List ℕ
kept_range_bars_load =
    codes "memprof-trace 1.0\ncpus 1\narea 1\nkernel\ntag mm/slub.c 1 slab\nmodule ext\n"
    ++ codes "tag m/x.c 5 fx\nmodule two\ntag m/y.c 7 fy\n"
    ++ codes "load ext\nround\non 0 enter ext\non 0 hook ext:0\non 0 page 1 0\non 0 unhook\non 0 leave ext\n"
    ++ codes "round\non 0 unload ext\nload two\n"

-- once the reference is freed, the range is released
unfoldable pub range_given_again : List ℕ
range_given_again =
    codes "memprof-trace 1.0\ncpus 1\narea 1\nkernel\ntag mm/slub.c 1 slab\nmodule ext\n"
    ++ codes "tag m/x.c 5 fx\nmodule two\ntag m/y.c 7 fy\n"
    ++ codes "load ext\nround\non 0 enter ext\non 0 hook ext:0\non 0 page 1 0\non 0 unhook\non 0 leave ext\n"
    ++ codes "round\non 0 unload ext\non 0 free 1\nload two\nareas\n"

unfoldable pub range_given_again_text : List ℕ
range_given_again_text =
    codes "areas: 1\narea two 128+1 loaded\ndone: rounds 2 ops 7 failed 0 uncounted 0 live 0 kept 0\n"

-- without a hook a block has the empty mark, and counts nothing
unfoldable pub empty_mark_free : List ℕ
empty_mark_free =
    head
    ++ codes "round\non 0 page 1 0\nprint\n"
    ++ codes "round\non 0 free 1\n"

unfoldable pub empty_mark_free_text : List ℕ
empty_mark_free_text =
    header_text ++ codes "           0        0 mm/slub.c:1 func:slab \n           0        0 mm/a.c:10 func:fa \n"
    ++ codes "           0        0 mm/b.c:20 func:fb \n"
    ++ codes "done: rounds 2 ops 2 failed 0 uncounted 0 live 0 kept 0\n"

-- the same, freed a second time
unfoldable pub freed_twice : List ℕ
freed_twice =
    empty_mark_free
    ++ codes "on 0 free 1\n"

-- the outer tag is current again behind the inner hook
unfoldable pub nested_hooks : List ℕ
nested_hooks =
    head
    ++ codes "round\non 0 hook kernel:1\non 0 hook kernel:2\non 0 page 1 0\non 0 unhook\non 0 page 2 1\nprint\n"

unfoldable pub nested_hooks_text : List ℕ
nested_hooks_text =
    header_text ++ codes "           0        0 mm/slub.c:1 func:slab \n        8192        1 mm/a.c:10 func:fa \n"
    ++ codes "        4096        1 mm/b.c:20 func:fb \n"
    ++ codes "done: rounds 1 ops 5 failed 0 uncounted 0 live 2 kept 0\n"

-- an allocation that finds no frames counts nothing
unfoldable pub no_frames : List ℕ
no_frames =
    head
    ++ codes "round\non 0 hook kernel:1\non 0 page 1 10\non 0 page 2 0\nprint\n"

unfoldable pub no_frames_text : List ℕ
no_frames_text =
    header_text ++ codes "           0        0 mm/slub.c:1 func:slab \n     4194304        1 mm/a.c:10 func:fa \n"
    ++ codes "           0        0 mm/b.c:20 func:fb \n"
    ++ codes "done: rounds 1 ops 3 failed 1 uncounted 0 live 1 kept 0\n"

-- a swap exchanges references, and not blocks
unfoldable pub swapped_references : List ℕ
swapped_references =
    head
    ++ codes "round\non 0 hook kernel:1\non 0 page 1 1\non 0 hook kernel:2\non 0 page 2 1\non 0 swap 1 2\n"
    ++ codes "on 0 free 1\nprint\n"

unfoldable pub swapped_references_text : List ℕ
swapped_references_text =
    header_text ++ codes "           0        0 mm/slub.c:1 func:slab \n        8192        1 mm/a.c:10 func:fa \n"
    ++ codes "           0        0 mm/b.c:20 func:fb \n"
    ++ codes "done: rounds 1 ops 6 failed 0 uncounted 0 live 1 kept 0\n"

-- blocks of two orders are not swapped
unfoldable pub swapped_unequal : List ℕ
swapped_unequal =
    head
    ++ codes "round\non 0 hook kernel:1\non 0 page 1 1\non 0 page 2 0\non 0 swap 1 2\n"

-- two CPUs name one key in a round
unfoldable pub shared_key : List ℕ
shared_key =
    head
    ++ codes "round\non 0 page 1 0\non 1 free 1\n"

-- four CPUs and two file systems, behind the header
abbrev pub two_file_systems_lines : List ℕ
two_file_systems_lines =
    codes "# four CPUs, two file systems\nkernel\ntag mm/slub.c 2326 alloc_slab_page\n"
    ++ codes "tag mm/filemap.c 1951 __filemap_get_folio\ntag kernel/fork.c 308 alloc_thread_stack_node\n"
    ++ codes "tag fs/dcache.c 1690 __d_alloc\n"
    ++ codes "module ext4\ntag fs/ext4/a.c 11 ext4_a\ntag fs/ext4/b.c 12 ext4_b\n"
    ++ codes "tag fs/ext4/c.c 13 ext4_c\ntag fs/ext4/d.c 14 ext4_d\ntag fs/ext4/e.c 15 ext4_e\n"
    ++ codes "tag fs/ext4/f.c 16 ext4_f\n"
    ++ codes "module xfs\ntag fs/xfs/a.c 21 xfs_a\ntag fs/xfs/b.c 22 xfs_b\ntag fs/xfs/c.c 23 xfs_c\n"
    ++ codes "tag fs/xfs/d.c 24 xfs_d\ntag fs/xfs/e.c 25 xfs_e\ntag fs/xfs/f.c 26 xfs_f\n"
    ++ codes "load ext4\nload xfs\n"
    ++ codes "round\non 0 enter ext4\non 0 hook ext4:0\non 0 kmalloc 1 1100\non 0 kmalloc 2 1100\n"
    ++ codes "on 0 unhook\non 1 enter xfs\non 1 hook xfs:0\non 1 kmalloc 10 400\non 1 page 11 2\n"
    ++ codes "on 1 unhook\non 2 hook kernel:1\n"
    ++ codes "on 2 page 20 0\non 2 page 21 2\non 2 unhook\non 3 hook kernel:3\non 3 kmalloc 30 192\n"
    ++ codes "on 3 kmalloc 31 40\non 3 unhook\n"
    ++ codes "print\n"
    ++ codes "round\non 0 leave ext4\non 1 leave xfs\non 2 split 21 0 22\non 3 free 2\n"
    ++ codes "round\non 1 unload ext4\non 2 free 22\non 0 free 10\non 3 hook kernel:2\non 3 page 40 2\n"
    ++ codes "on 3 unhook\n"
    ++ codes "areas\n"
    ++ codes "print\n"

abbrev pub two_file_systems_first : List ℕ
two_file_systems_first =
    header_text
    ++ codes "       45056        4 mm/slub.c:2326 func:alloc_slab_page \n"
    ++ codes "       20480        2 mm/filemap.c:1951 func:__filemap_get_folio \n"
    ++ codes "           0        0 kernel/fork.c:308 func:alloc_thread_stack_node \n"
    ++ codes "         256        2 fs/dcache.c:1690 func:__d_alloc \n"
    ++ codes "        4096        2 fs/ext4/a.c:11 [ext4] func:ext4_a \n"
    ++ codes "           0        0 fs/ext4/b.c:12 [ext4] func:ext4_b \n"
    ++ codes "           0        0 fs/ext4/c.c:13 [ext4] func:ext4_c \n"
    ++ codes "           0        0 fs/ext4/d.c:14 [ext4] func:ext4_d \n"
    ++ codes "           0        0 fs/ext4/e.c:15 [ext4] func:ext4_e \n"
    ++ codes "           0        0 fs/ext4/f.c:16 [ext4] func:ext4_f \n"
    ++ codes "       16896        2 fs/xfs/a.c:21 [xfs] func:xfs_a \n"
    ++ codes "           0        0 fs/xfs/b.c:22 [xfs] func:xfs_b \n"
    ++ codes "           0        0 fs/xfs/c.c:23 [xfs] func:xfs_c \n"
    ++ codes "           0        0 fs/xfs/d.c:24 [xfs] func:xfs_d \n"
    ++ codes "           0        0 fs/xfs/e.c:25 [xfs] func:xfs_e \n"
    ++ codes "           0        0 fs/xfs/f.c:26 [xfs] func:xfs_f \n"
    ++ codes "areas: 2\narea ext4 128+6 kept\narea xfs 134+6 loaded\n"

abbrev pub two_file_systems_second : List ℕ
two_file_systems_second =
    header_text
    ++ codes "       40960        3 mm/slub.c:2326 func:alloc_slab_page \n"
    ++ codes "       16384        4 mm/filemap.c:1951 func:__filemap_get_folio \n"
    ++ codes "       16384        1 kernel/fork.c:308 func:alloc_thread_stack_node \n"
    ++ codes "         256        2 fs/dcache.c:1690 func:__d_alloc \n"
    ++ codes "       16384        1 fs/xfs/a.c:21 [xfs] func:xfs_a \n"
    ++ codes "           0        0 fs/xfs/b.c:22 [xfs] func:xfs_b \n"
    ++ codes "           0        0 fs/xfs/c.c:23 [xfs] func:xfs_c \n"
    ++ codes "           0        0 fs/xfs/d.c:24 [xfs] func:xfs_d \n"
    ++ codes "           0        0 fs/xfs/e.c:25 [xfs] func:xfs_e \n"
    ++ codes "           0        0 fs/xfs/f.c:26 [xfs] func:xfs_f \n"

abbrev pub two_file_systems_done : List ℕ
two_file_systems_done = codes "done: rounds 3 ops 28 failed 0 uncounted 0 live 12 kept 1\n"

-- kept ranges aren't printed
unfoldable pub two_file_systems : List ℕ
two_file_systems =
    codes "memprof-trace 1.0\n"
    ++ two_file_systems_lines

unfoldable pub two_file_systems_text : List ℕ
two_file_systems_text =
    two_file_systems_first
    ++ two_file_systems_second
    ++ two_file_systems_done

-- by the header_text's version they are
unfoldable pub kept_rows_printed : List ℕ
kept_rows_printed =
    codes "memprof-trace 1.1\n"
    ++ two_file_systems_lines

unfoldable pub kept_rows_printed_text : List ℕ
kept_rows_printed_text =
    two_file_systems_first
    ++ two_file_systems_second
    ++ codes "        2048        1 fs/ext4/a.c:11 [ext4:kept] func:ext4_a \n"
    ++ codes "           0        0 fs/ext4/b.c:12 [ext4:kept] func:ext4_b \n"
    ++ codes "           0        0 fs/ext4/c.c:13 [ext4:kept] func:ext4_c \n"
    ++ codes "           0        0 fs/ext4/d.c:14 [ext4:kept] func:ext4_d \n"
    ++ codes "           0        0 fs/ext4/e.c:15 [ext4:kept] func:ext4_e \n"
    ++ codes "           0        0 fs/ext4/f.c:16 [ext4:kept] func:ext4_f \n"
    ++ two_file_systems_done
