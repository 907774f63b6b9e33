mod Stubs
